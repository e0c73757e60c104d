-- With which kinds the rows of a rule begin, and which rules have an empty row.
use Rattle.std.proofs.Common.{◌≡◌, ℕ, ◌≤◌, Bool, true, false, List, [], ◌∷◌, ◌++◌, inl, inr, refl, sym, ◌∙◌, subst, arith, Option, Some}
use Rattle.std.specs.Prelude.{nat_eq}
use Rattle.reading.specs.Row.{Entry, Row}
use Rattle.reading.specs.Language.{Language, Many}
use Rattle.reading.proofs.Rows.{append_nil, front_nil, back_nil}
use Rattle.reading.proofs.Starts.{StartsWith, StartsWithout, first_mark, terminal_nonempty}
use Rattle.grammars.specs.Grammar.{Lexicon, of_kind, Rule, empty, token, map, sequence, split, choice, repeat, stages, brackets, stage}
use Rattle.grammars.specs.Kinds.{holds, when, at_stages, at_some_stage, nullable, first}
use Rattle.grammars.specs.Spelled.{InStages, SpellsWith}
use Rattle.grammars.specs.Reader.{among}
use Rattle.grammars.proofs.Sets.{holds_left, holds_right, holds_one, holds_when, holds_stage, some_stage, stage_within, kind_is, pair_true, either_one, either_two}

-- the first token of a list is that of its first element
many_in : {T A : Type 0} (P : Language T A) (test : T → Bool) → ((a : A) (m : Entry T) (row : Row T) → P a (m ∷ row) → test m.token ≡ true)
    → (xs : List A) (m : Entry T) (row : Row T) → Many P xs (m ∷ row) → test m.token ≡ true
many_in P test h [] m row e = cc
many_in {T} {A} P test h (x ∷ xs) m row (u, v, e, s, t) = at u e s (λ is. many_in P test h xs m row (subst (Many P xs) is t))
  where
    at : (u : Row T) → m ∷ row ≡ u ++ v → P x u → (v ≡ m ∷ row → test m.token ≡ true) → test m.token ≡ true
    at [] e s behind = behind (sym e)
    at (n ∷ u) e s behind = let same : m ≡ n = cc in subst (λ k. test k.token ≡ true) (sym same) (h x n u s)

-- and so in stages: what is true of the first token of each part at each stage is true of that of the list
pub stages_in : {T A : Type 0} (last : ℕ) (rank : A → ℕ) (P : ℕ → Language T A) (Q : T → Type 0) → ((k : ℕ) → k ≤ last → (a : A) (m : Entry T) (row : Row T) → P k a (m ∷ row) → Q m.token)
    → (k : ℕ) → k ≤ last → (xs : List A) (m : Entry T) (row : Row T) → InStages last rank P k xs (m ∷ row) → Q m.token
stages_in last rank P Q h k low [] m row e = cc
stages_in {T} {A} last rank P Q h k low (x ∷ xs) m row (u, v, e, s, t) =
    at u e s (λ is. stages_in last rank P Q h (stage last (rank x)) (stage_within last (rank x)) xs m row (subst (InStages last rank P (stage last (rank x)) xs) is t))
  where
    at : (u : Row T) → m ∷ row ≡ u ++ v → P k x u → (v ≡ m ∷ row → Q m.token) → Q m.token
    at [] e s behind = behind (sym e)
    at (n ∷ u) e s behind = let same : m ≡ n = cc in subst (λ k. Q k.token) (sym same) (h k low x n u s)

module _ {T N : Type 0} {Tree : N → Type 0} (lexicon : Lexicon T) (d : ℕ) (L : (n : N) → Language T (Tree n)) where
  abbrev Rows : {A : Type 0} → Rule T N Tree A → Language T A
  Rows r = SpellsWith lexicon d L r

  pub empty_row : {A : Type 0} (r : Rule T N Tree A) (a : A) (row : Row T) → Rows r a row → [] ≡ row → nullable r ≡ true
  empty_row (empty a) b row s e = refl
  empty_row (token k f) b row s e = absurd (terminal_nonempty (of_kind lexicon d k f) row s [] (e ∙ sym (append_nil row)))
  empty_row (map f p) b row (a, s, is) e = empty_row p a row s e
  empty_row (sequence f p q) c row (a, u, v, at, s, (b, t, is)) e =
      pair_true (nullable p) (nullable q) (empty_row p a u s (sym (front_nil u v (e ∙ at)))) (empty_row q b v t (sym (back_nil u v (e ∙ at))))
  empty_row (split last way f p rules) c row (a, u, v, at, s, (b, t, is)) e =
      let k = stage last (way a) in
      pair_true (nullable p) (at_some_stage (λ j. nullable (rules j)) last) (empty_row p a u s (sym (front_nil u v (e ∙ at))))
      (some_stage (λ j. nullable (rules j)) last k (stage_within last (way a)) (empty_row (rules k) b v t (sym (back_nil u v (e ∙ at)))))
  empty_row (choice p q) a row (inl s) e = either_one (nullable p) (nullable q) (empty_row p a row s e)
  empty_row (choice p q) a row (inr s) e = either_two (nullable p) (nullable q) (empty_row q a row s e)
  empty_row (repeat p) xs row s e = refl
  empty_row (stages last rank rules) xs row s e = refl
  empty_row (brackets opens closes n) x row (t, u, v, at, s, more) e = absurd (terminal_nonempty (of_kind lexicon d opens Some) u s v (e ∙ at))

  -- where one rule stands before others
  sequence_first : {A : Type 0} (p : Rule T N Tree A) (ys : List ℕ) (a : A) (m : Entry T) (row u v : Row T) → m ∷ row ≡ u ++ v → Rows p a u
      → ((n : Entry T) (w : Row T) → Rows p a (n ∷ w) → among lexicon d (first p) n.token ≡ true) → (v ≡ m ∷ row → among lexicon d ys m.token ≡ true)
      → among lexicon d (first p ++ when (nullable p) ys) m.token ≡ true
  sequence_first p ys a m row [] v e s here behind = holds_when (first p) ys (lexicon.kind d m.token) (nullable p) (empty_row p a [] s refl) (behind (sym e))
  sequence_first p ys a m row (n ∷ u) v e s here behind =
      let same : m ≡ n = cc in
      holds_left (first p) (when (nullable p) ys) (lexicon.kind d m.token) (subst (λ k. among lexicon d (first p) k.token ≡ true) (sym same) (here n u s))

  of_kind_first : {A : Type 0} (k : ℕ) (f : T → Option A) (t : T) (a : A) → of_kind lexicon d k f t ≡ Some a → among lexicon d (k ∷ []) t ≡ true
  of_kind_first k f t a e = holds_one k (lexicon.kind d t) (kind_is (nat_eq k (lexicon.kind d t)) (f t) a e)

  pub first_in : {A : Type 0} (r : Rule T N Tree A) (a : A) (m : Entry T) (row : Row T) → Rows r a (m ∷ row) → among lexicon d (first r) m.token ≡ true
  first_in (empty a) b m row (is, e) = cc
  first_in (token k f) a m row (n, e, at, sel) =
      let same : m ≡ n = cc in
      subst (λ x. among lexicon d (k ∷ []) x.token ≡ true) (sym same) (of_kind_first k f n.token a sel)
  first_in (map f p) b m row (a, s, is) = first_in p a m row s
  first_in (sequence f p q) c m row (a, u, v, e, s, (b, t, is)) =
      sequence_first p (first q) a m row u v e s (first_in p a) (λ at. first_in q b m row (subst (Rows q b) at t))
  first_in (split last way f p rules) c m row (a, u, v, e, s, (b, t, is)) =
      let k = stage last (way a) in
      sequence_first p (at_stages (λ j. first (rules j)) last) a m row u v e s (first_in p a)
      (λ at. holds_stage (λ j. first (rules j)) last k (lexicon.kind d m.token) (stage_within last (way a)) (first_in (rules k) b m row (subst (Rows (rules k) b) at t)))
  first_in (choice p q) a m row (inl s) = holds_left (first p) (first q) (lexicon.kind d m.token) (first_in p a m row s)
  first_in (choice p q) a m row (inr s) = holds_right (first p) (first q) (lexicon.kind d m.token) (first_in q a m row s)
  first_in (repeat p) xs m row s = many_in (Rows p) (among lexicon d (first p)) (first_in p) xs m row s
  first_in (stages last rank rules) xs m row s =
      stages_in last rank (λ k. Rows (rules k)) (λ t. among lexicon d (at_stages (λ k. first (rules k)) last) t ≡ true)
      (λ k low a n w t. holds_stage (λ j. first (rules j)) last k (lexicon.kind d n.token) low (first_in (rules k) a n w t)) 0 (omega arith) xs m row s
  first_in (brackets opens closes n) x m row (t, u, v, e, s, more) =
      first_mark (of_kind lexicon d opens Some) (among lexicon d (opens ∷ [])) u (of_kind_first opens Some) s m row v e

  -- ---- as the readers' lemmas ask for it

  pub starts_with : {A : Type 0} (r : Rule T N Tree A) → nullable r ≡ false → StartsWith (among lexicon d (first r)) (Rows r)
  starts_with r e = record { first = first_in r; nonempty = λ a s. let is : nullable r ≡ true = empty_row r a [] s refl in cc }

  pub starts_apart : {A : Type 0} (xs : List ℕ) (r : Rule T N Tree A) → ((k : ℕ) → holds (first r) k ≡ true → holds xs k ≡ false) → StartsWithout (among lexicon d xs) (Rows r)
  starts_apart xs r e = record { first = λ a m row s. e (lexicon.kind d m.token) (first_in r a m row s) }
