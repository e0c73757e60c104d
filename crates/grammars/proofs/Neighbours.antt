-- Of the rows that a grammar spells each token and the next are parted, where the kinds that the grammar puts side by side are.
use Rattle.std.proofs.Common.{◌≡◌, ℕ, zero, suc, ◌≤◌, Bool, true, false, cond, List, [], ◌∷◌, ◌++◌, inl, inr, refl, sym, ap, ◌∙◌, subst, arith, Option, Some}
use Rattle.std.specs.Prelude.{nat_eq, ◌&&◌}
use Rattle.std.specs.List.{list_all}
use Rattle.std.proofs.lemmas.Bool.{eqb-true, and_parts}
use Rattle.reading.specs.Row.{Entry, Row}
use Rattle.reading.specs.Language.{Language, Many, Terminal}
use Rattle.reading.proofs.Rows.{has_one, front_nil, only_one, split_at}
use Rattle.grammars.specs.Grammar.{Lexicon, of_kind, Rule, empty, token, map, sequence, split, choice, repeat, stages, brackets, Grammar, stage}
use Rattle.grammars.specs.Kinds.{holds, when, at_stages, at_some_stage, nullable, first}
use Rattle.grammars.specs.Spelled.{InStages, SpellsWith, SpellsUpTo, Spells}
use Rattle.grammars.specs.Reader.{among}
use Rattle.grammars.specs.Neighbours.{SideBySide, clashing, last, meetings}
use Rattle.grammars.proofs.Sets.{front_none, back_none, holds_left, holds_right, holds_one, holds_when, holds_stage, some_stage, stage_none, stage_within, kind_is}
use Rattle.grammars.proofs.Begins.{stages_in, empty_row, first_in}
use Rattle.grammars.proofs.Levels.{from_symbol}

-- ---- sets

all_at : (test : ℕ → Bool) (y : ℕ) (ys : List ℕ) (k : ℕ) (b : Bool) → nat_eq y k ≡ b → (list_all test ys ≡ true → holds ys k ≡ true → test k ≡ true) → (test y && list_all test ys) ≡ true → cond b true (holds ys k) ≡ true → test k ≡ true
all_at test y ys k true e ih all h = ap test (sym (eqb-true y k e)) ∙ (and_parts (test y) (list_all test ys) all).0
all_at test y ys k false e ih all h = ih (and_parts (test y) (list_all test ys) all).1 h

all_of : (test : ℕ → Bool) (ys : List ℕ) (k : ℕ) → list_all test ys ≡ true → holds ys k ≡ true → test k ≡ true
all_of test [] k all h = cc
all_of test (y ∷ ys) k all h = all_at test y ys k (nat_eq y k) refl (all_of test ys k) all h

parted_at : (parted : ℕ → ℕ → Bool) (x : ℕ) (xs ys : List ℕ) (k j : ℕ) (b c : Bool) → nat_eq x k ≡ b → list_all (parted x) ys ≡ c → (clashing parted xs ys ≡ [] → holds xs k ≡ true → parted k j ≡ true)
    → cond c (clashing parted xs ys) (x ∷ clashing parted xs ys) ≡ [] → cond b true (holds xs k) ≡ true → holds ys j ≡ true → parted k j ≡ true
parted_at parted x xs ys k j b false same all ih none h i = cc
parted_at parted x xs ys k j true true same all ih none h i = ap (λ z. parted z j) (sym (eqb-true x k same)) ∙ all_of (parted x) ys j all i
parted_at parted x xs ys k j false true same all ih none h i = ih none h

parted_out : (parted : ℕ → ℕ → Bool) (xs ys : List ℕ) (k j : ℕ) → clashing parted xs ys ≡ [] → holds xs k ≡ true → holds ys j ≡ true → parted k j ≡ true
parted_out parted [] ys k j none h i = cc
parted_out parted (x ∷ xs) ys k j none h i = parted_at parted x xs ys k j (nat_eq x k) (list_all (parted x) ys) refl refl (λ e f. parted_out parted xs ys k j e f i) none h i

-- ---- rows

module _ {T : Type 0} (P : T → T → Type 0) where
  -- the last token of the first row and the first of the second
  abbrev Meet : Row T → Row T → Type 0
  Meet u v = (f : Row T) (m n : Entry T) (g : Row T) → u ≡ f ++ m ∷ [] → v ≡ n ∷ g → P m.token n.token

  meet_tail : (m n : Entry T) (u v : Row T) → Meet (m ∷ n ∷ u) v → Meet (n ∷ u) v
  meet_tail m n u v meet f k l g e h = meet (m ∷ f) k l g (ap (λ x. m ∷ x) e) h

  pub side_by_side : (u v : Row T) → SideBySide P u → SideBySide P v → Meet u v → SideBySide P (u ++ v)
  side_by_side [] v s t meet = t
  side_by_side (m ∷ []) [] s t meet = tt
  side_by_side (m ∷ []) (n ∷ v) s t meet = (meet [] m n v refl refl, t)
  side_by_side (m ∷ n ∷ u) v s t meet = (s.0, side_by_side (n ∷ u) v s.1 t (meet_tail m n u v meet))

-- the last entry of two rows stands in the second, or in the first where the second is empty
last_of_two : {T : Type 0} (f u v : Row T) (m : Entry T) → f ++ m ∷ [] ≡ u ++ v → (C : Type 0) → ((h : Row T) → v ≡ h ++ m ∷ [] → C) → ((h : Row T) → u ≡ h ++ m ∷ [] → v ≡ [] → C) → C
last_of_two f u v m e C second first =
    elim (split_at f m [] u v e) [
      | inl (h, here, there) ↦ second h there
      | inr (h, here, there) ↦ first f (here ∙ ap (λ x. f ++ m ∷ x) (front_nil h v there)) (back h v there)
    ]
  where
    back : {A : Type 0} (xs ys : List A) → [] ≡ xs ++ ys → ys ≡ []
    back [] ys e = sym e
    back (x ∷ xs) ys e = cc

module _ {T N : Type 0} {Tree : N → Type 0} (lexicon : Lexicon T) (d : ℕ) (L : (n : N) → Language T (Tree n)) where
  abbrev Rows : {A : Type 0} → Rule T N Tree A → Language T A
  Rows r = SpellsWith lexicon d L r

  -- it has one of these kinds, at some depth
  abbrev EndsIn : List ℕ → Entry T → Type 0
  EndsIn kinds m = (e : ℕ) × (among lexicon e kinds m.token ≡ true)

  abbrev LastIn : {A : Type 0} → Language T A → List ℕ → Type 0
  LastIn {A} R kinds = (a : A) (f : Row T) (m : Entry T) → R a (f ++ m ∷ []) → EndsIn kinds m

  terminal_last : {A : Type 0} (at e k : ℕ) (select : T → Option A) (a : A) (f : Row T) (m : Entry T) → Terminal at (of_kind lexicon e k select) a (f ++ m ∷ []) → EndsIn (k ∷ []) m
  terminal_last at e k select a f m (n, is, deep, sel) =
      let same : m ≡ n = only_one f m n [] is in
      (e, holds_one k (lexicon.kind e m.token) (kind_is (nat_eq k (lexicon.kind e m.token)) (select m.token) a (ap (λ x. of_kind lexicon e k select x.token) same ∙ sel)))

  many_last : {A : Type 0} (R : Language T A) (kinds : List ℕ) → LastIn R kinds → LastIn (Many R) kinds
  many_last R kinds h [] f m e = absurd (has_one f m [] e)
  many_last R kinds h (x ∷ xs) f m (u, v, e, s, t) =
      last_of_two f u v m e (EndsIn kinds m) (λ g is. many_last R kinds h xs g m (subst (Many R xs) is t)) (λ g is nothing. h x g m (subst (R x) is s))

  stages_last : {A : Type 0} (end : ℕ) (rank : A → ℕ) (R : ℕ → Language T A) (kinds : List ℕ) → ((s : ℕ) → s ≤ end → LastIn (R s) kinds) → (s : ℕ) → s ≤ end → LastIn (InStages end rank R s) kinds
  stages_last end rank R kinds h s low [] f m e = absurd (has_one f m [] e)
  stages_last end rank R kinds h s low (x ∷ xs) f m (u, v, e, here, t) =
      last_of_two f u v m e (EndsIn kinds m) (λ g is. stages_last end rank R kinds h (stage end (rank x)) (stage_within end (rank x)) xs g m (subst (InStages end rank R (stage end (rank x)) xs) is t))
      (λ g is nothing. h s low x g m (subst (R s x) is here))

  either_kinds : (xs ys : List ℕ) (m : Entry T) → EndsIn xs m → EndsIn (xs ++ ys) m
  either_kinds xs ys m (e, h) = (e, holds_left xs ys (lexicon.kind e m.token) h)

  other_kinds : (xs ys : List ℕ) (m : Entry T) → EndsIn ys m → EndsIn (xs ++ ys) m
  other_kinds xs ys m (e, h) = (e, holds_right xs ys (lexicon.kind e m.token) h)

  when_kinds : (xs ys : List ℕ) (m : Entry T) (b : Bool) → b ≡ true → EndsIn ys m → EndsIn (xs ++ when b ys) m
  when_kinds xs ys m b is (e, h) = (e, holds_when xs ys (lexicon.kind e m.token) b is h)

  pub last_in : {A : Type 0} (r : Rule T N Tree A) → LastIn (Rows r) (last r)
  last_in (empty a) b f m (is, e) = absurd (has_one f m [] e)
  last_in (token k select) a f m t = terminal_last d d k select a f m t
  last_in (map h p) b f m (a, s, is) = last_in p a f m s
  last_in (sequence h p q) c f m (a, u, v, e, s, (b, t, is)) =
      last_of_two f u v m e (EndsIn (last q ++ when (nullable q) (last p)) m)
      (λ g at. either_kinds (last q) (when (nullable q) (last p)) m (last_in q b g m (subst (Rows q b) at t)))
      (λ g at nothing. when_kinds (last q) (last p) m (nullable q) (empty_row lexicon d L q b v t (sym nothing)) (last_in p a g m (subst (Rows p a) at s)))
  last_in (split end way h p rules) c f m (a, u, v, e, s, (b, t, is)) =
      let k = stage end (way a) in
      let low = stage_within end (way a) in
      let all = at_stages (λ j. last (rules j)) end in
      let some = at_some_stage (λ j. nullable (rules j)) end in
      last_of_two f u v m e (EndsIn (all ++ when some (last p)) m)
      (λ g at. let w = last_in (rules k) b g m (subst (Rows (rules k) b) at t) in
      either_kinds all (when some (last p)) m (w.0, holds_stage (λ j. last (rules j)) end k (lexicon.kind w.0 m.token) low w.1))
      (λ g at nothing. when_kinds all (last p) m some (some_stage (λ j. nullable (rules j)) end k low (empty_row lexicon d L (rules k) b v t (sym nothing))) (last_in p a g m (subst (Rows p a) at s)))
  last_in (choice p q) a f m (inl s) = either_kinds (last p) (last q) m (last_in p a f m s)
  last_in (choice p q) a f m (inr s) = other_kinds (last p) (last q) m (last_in q a f m s)
  last_in (repeat p) xs f m s = many_last (Rows p) (last p) (last_in p) xs f m s
  last_in (stages end rank rules) xs f m s =
      stages_last end rank (λ k. Rows (rules k)) (at_stages (λ k. last (rules k)) end)
      (λ k low a g n t. let w = last_in (rules k) a g n t in (w.0, holds_stage (λ j. last (rules j)) end k (lexicon.kind w.0 n.token) low w.1)) 0 (omega arith) xs f m s
  last_in (brackets opens closes n) x f m (o, u, v, e, s, (y, k, l, e2, inside, (c, shut, is))) =
      last_of_two f u v m e (EndsIn (closes ∷ []) m)
      (λ g at. last_of_two g k l m (sym at ∙ e2) (EndsIn (closes ∷ []) m) (λ h there. terminal_last (suc d) (suc d) closes Some c h m (subst (Terminal (suc d) (of_kind lexicon (suc d) closes Some) c) there shut))
      (λ h there nothing. absurd (no_closing l c shut nothing)))
      (λ g at nothing. absurd (no_closing_in v k l e2 c shut nothing))
    where
      no_closing : (l : Row T) (c : T) → Terminal (suc d) (of_kind lexicon (suc d) closes Some) c l → l ≡ [] → ⊥
      no_closing l c (n, is, deep, sel) nothing = let no : [] ≡ n ∷ [] = sym nothing ∙ is in cc

      no_closing_in : (v k l : Row T) → v ≡ k ++ l → (c : T) → Terminal (suc d) (of_kind lexicon (suc d) closes Some) c l → v ≡ [] → ⊥
      no_closing_in v [] l e c shut nothing = no_closing l c shut (sym e ∙ nothing)
      no_closing_in v (x ∷ k) l e c shut nothing = let no : [] ≡ x ∷ (k ++ l) = sym nothing ∙ e in cc

-- ---- the theorem

module _ {T N : Type 0} {Tree : N → Type 0} (lexicon : Lexicon T) (g : Grammar T N Tree) (parted : ℕ → ℕ → Bool) (P : T → T → Type 0)
    (apart : (d e : ℕ) (t u : T) → parted (lexicon.kind d t) (lexicon.kind e u) ≡ true → P t u) where
  meet_of : (d : ℕ) (xs ys : List ℕ) → clashing parted xs ys ≡ [] → (m n : Entry T) → (e : ℕ) × (among lexicon e xs m.token ≡ true) → among lexicon d ys n.token ≡ true → P m.token n.token
  meet_of d xs ys none m n (e, h) i = apart e d m.token n.token (parted_out parted xs ys (lexicon.kind e m.token) (lexicon.kind d n.token) none h i)

  abbrev Side_by : Row T → Type 0
  Side_by row = SideBySide P row

  three : {A : Type 0} (xs ys zs : List A) → xs ++ ys ++ zs ≡ [] → (xs ≡ []) × (ys ≡ []) × (zs ≡ [])
  three xs ys zs e = let a = front_none (xs ++ ys) zs e in (front_none xs ys a, back_none xs ys a, back_none (xs ++ ys) zs e)

  module _ (d : ℕ) (L : (n : N) → Language T (Tree n)) (inner : (n : N) (x : Tree n) (row : Row T) → L n x row → Side_by row × Spells lexicon g (suc d) n x row) where
    abbrev Here : {A : Type 0} → Rule T N Tree A → Language T A
    Here r = SpellsWith lexicon d L r

    -- where the kinds of two rules may stand side by side
    meet_rules : {A B : Type 0} (p : Rule T N Tree A) (q : Rule T N Tree B) (ys : List ℕ) → clashing parted (last p) ys ≡ [] → (a : A) (b : B) (u v : Row T) → Here p a u → Here q b v
        → ((n : Entry T) (w : Row T) → Here q b (n ∷ w) → among lexicon d ys n.token ≡ true) → Meet P u v
    meet_rules p q ys none a b u v s t begins f m n w e h = meet_of d (last p) ys none m n (last_in lexicon d L p a f m (subst (Here p a) e s)) (begins n w (subst (Here q b) h t))

    many_rows : {A : Type 0} (p : Rule T N Tree A) → clashing parted (last p) (first p) ≡ [] → ((a : A) (row : Row T) → Here p a row → Side_by row) → (xs : List A) (row : Row T) → Many (Here p) xs row → Side_by row
    many_rows p none h [] row e = subst Side_by (sym e) tt
    many_rows p none h (x ∷ xs) row (u, v, e, s, t) =
        subst Side_by (sym e) (side_by_side P u v (h x u s) (many_rows p none h xs v t) (meet_rules p (repeat p) (first p) none x xs u v s t (λ n w r. first_in lexicon d L (repeat p) xs n w r)))

    stage_rows : {A : Type 0} (end : ℕ) (rank : A → ℕ) (rules : ℕ → Rule T N Tree A) → clashing parted (at_stages (λ s. last (rules s)) end) (at_stages (λ s. first (rules s)) end) ≡ []
        → ((k : ℕ) → k ≤ end → (a : A) (row : Row T) → Here (rules k) a row → Side_by row) → (k : ℕ) → k ≤ end → (xs : List A) (row : Row T) → InStages end rank (λ s. Here (rules s)) k xs row → Side_by row
    stage_rows end rank rules none h k low [] row e = subst Side_by (sym e) tt
    stage_rows end rank rules none h k low (x ∷ xs) row (u, v, e, s, t) =
        let next = stage end (rank x) in
        subst Side_by (sym e) (side_by_side P u v (h k low x u s) (stage_rows end rank rules none h next (stage_within end (rank x)) xs v t)
        (λ f m n w at there.
        let ends = last_in lexicon d L (rules k) x f m (subst (Here (rules k) x) at s) in
        meet_of d (at_stages (λ s. last (rules s)) end) (at_stages (λ s. first (rules s)) end) none m n
        (ends.0, holds_stage (λ s. last (rules s)) end k (lexicon.kind ends.0 m.token) low ends.1)
        (stages_in end rank (λ s. Here (rules s)) (λ y. among lexicon d (at_stages (λ s. first (rules s)) end) y ≡ true)
        (λ j less a y z r. holds_stage (λ s. first (rules s)) end j (lexicon.kind d y.token) less (first_in lexicon d L (rules j) a y z r)) next (stage_within end (rank x)) xs n w (subst (InStages end rank (λ s. Here (rules s)) next xs) there t))))

    -- behind an opening token: the first of what stands between, or the closing one
    first_behind : (opens closes : ℕ) (n : N) (y : Tree n) (k : Row T) (m z : Entry T) → SpellsWith lexicon (suc d) (Spells lexicon g (suc (suc d))) (g n) y k
        → among lexicon d (opens ∷ []) m.token ≡ true → among lexicon (suc d) (closes ∷ []) z.token ≡ true → clashing parted (opens ∷ []) (first (g n)) ≡ [] → clashing parted (opens ∷ []) (closes ∷ []) ≡ []
        → (b : Entry T) (r : Row T) → k ++ z ∷ [] ≡ b ∷ r → P m.token b.token
    first_behind opens closes n y [] m z rule opened closed none_first none_closes b r e =
        let here : z ≡ b = cc in
        subst (λ b. P m.token b.token) here (meet_of (suc d) (opens ∷ []) (closes ∷ []) none_closes m z (d, opened) closed)
    first_behind opens closes n y (x ∷ k) m z rule opened closed none_first none_closes b r e =
        let here : x ≡ b = cc in
        subst (λ b. P m.token b.token) here (meet_of (suc d) (opens ∷ []) (first (g n)) none_first m x (d, opened) (first_in lexicon (suc d) (Spells lexicon g (suc (suc d))) (g n) y x k rule))

    rule_rows : {A : Type 0} (r : Rule T N Tree A) → meetings parted g r ≡ [] → (a : A) (row : Row T) → Here r a row → Side_by row
    rule_rows (empty a) none b row (is, e) = subst Side_by (sym e) tt
    rule_rows (token k f) none a row (m, e, deep, sel) = subst Side_by (sym e) tt
    rule_rows (map f p) none b row (a, s, is) = rule_rows p none a row s
    rule_rows (sequence f p q) none c row (a, u, v, e, s, (b, t, is)) =
        let w = three (meetings parted g p) (meetings parted g q) (clashing parted (last p) (first q)) none in
        subst Side_by (sym e) (side_by_side P u v (rule_rows p w.0 a u s) (rule_rows q w.1 b v t) (meet_rules p q (first q) w.2 a b u v s t (λ n y z. first_in lexicon d L q b n y z)))
    rule_rows (split end way f p rules) none c row (a, u, v, e, s, (b, t, is)) =
        let k = stage end (way a) in
        let both = at_stages (λ j. meetings parted g (rules j) ++ clashing parted (last p) (first (rules j))) end in
        let here = stage_none (λ j. meetings parted g (rules j) ++ clashing parted (last p) (first (rules j))) end k (back_none (meetings parted g p) both none) (stage_within end (way a)) in
        subst Side_by (sym e) (side_by_side P u v (rule_rows p (front_none (meetings parted g p) both none) a u s) (rule_rows (rules k) (front_none (meetings parted g (rules k)) (clashing parted (last p) (first (rules k))) here) b v t)
        (meet_rules p (rules k) (first (rules k)) (back_none (meetings parted g (rules k)) (clashing parted (last p) (first (rules k))) here) a b u v s t (λ n y z. first_in lexicon d L (rules k) b n y z)))
    rule_rows (choice p q) none a row (inl s) = rule_rows p (front_none (meetings parted g p) (meetings parted g q) none) a row s
    rule_rows (choice p q) none a row (inr s) = rule_rows q (back_none (meetings parted g p) (meetings parted g q) none) a row s
    rule_rows (repeat p) none xs row s =
        many_rows p (back_none (meetings parted g p) (clashing parted (last p) (first p)) none) (rule_rows p (front_none (meetings parted g p) (clashing parted (last p) (first p)) none)) xs row s
    rule_rows (stages end rank rules) none xs row s =
        let both = clashing parted (at_stages (λ s. last (rules s)) end) (at_stages (λ s. first (rules s)) end) in
        let each = at_stages (λ s. meetings parted g (rules s)) end in
        stage_rows end rank rules (back_none each both none) (λ k low. rule_rows (rules k) (stage_none (λ s. meetings parted g (rules s)) end k (front_none each both none) low)) 0 (omega arith) xs row s
    rule_rows (brackets opens closes n) none x row (o, u, v, e, (m, is, deep, sel), (y, k, l, e2, inside, (c, (z, at, deep2, sel2), same))) =
        let w = three (clashing parted (opens ∷ []) (first (g n))) (clashing parted (last (g n)) (closes ∷ [])) (clashing parted (opens ∷ []) (closes ∷ [])) none in
        let i = inner n y k inside in
        let rule = from_symbol lexicon g (suc d) n y k i.1 in
        let opened : among lexicon d (opens ∷ []) m.token ≡ true = holds_one opens (lexicon.kind d m.token) (kind_is (nat_eq opens (lexicon.kind d m.token)) (Some m.token) o sel) in
        let closed : among lexicon (suc d) (closes ∷ []) z.token ≡ true = holds_one closes (lexicon.kind (suc d) z.token) (kind_is (nat_eq closes (lexicon.kind (suc d) z.token)) (Some z.token) c sel2) in
        let behind : Side_by (k ++ z ∷ []) = side_by_side P k (z ∷ []) i.0 tt (λ f a b r p q.
        let end = last_in lexicon (suc d) (Spells lexicon g (suc (suc d))) (g n) y f a (subst (SpellsWith lexicon (suc d) (Spells lexicon g (suc (suc d))) (g n) y) p rule) in
        let here : z ≡ b = cc in
        subst (λ b. P a.token b.token) here (meet_of (suc d) (last (g n)) (closes ∷ []) w.1 a z end closed)) in
        let second : Meet P (m ∷ []) (k ++ z ∷ []) = λ f a b r p q.
        subst (λ a. P a.token b.token) (sym (only_one f a m [] (sym p))) (first_behind opens closes n y k m z rule opened closed w.0 w.2 b r q) in
        subst Side_by (sym (e ∙ ap (λ s. s ++ v) is ∙ ap (λ s. m ∷ s) (e2 ∙ ap (λ s. k ++ s) at))) (side_by_side P (m ∷ []) (k ++ z ∷ []) tt behind second)

  module _ (none : (n : N) → meetings parted g (g n) ≡ []) where
    symbol_rows : (levels d : ℕ) (n : N) (x : Tree n) (row : Row T) → SpellsUpTo lexicon g levels d n x row → Side_by row
    symbol_rows zero d n x row s = absurd s
    symbol_rows (suc l) d n x row s = rule_rows d (SpellsUpTo lexicon g l (suc d)) (λ m y r t. (symbol_rows l (suc d) m y r t, (l, t))) (g n) (none n) x row s

    pub rows_are_parted : (d : ℕ) (n : N) (x : Tree n) (row : Row T) → Spells lexicon g d n x row → Side_by row
    rows_are_parted d n x row (l, s) = symbol_rows l d n x row s
