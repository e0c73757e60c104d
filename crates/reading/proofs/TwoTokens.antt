-- A choice by the first two tokens.
use Rattle.std.proofs.Common.{◌≡◌, ℕ, ◌≤◌, ◌<◌, Bool, true, false, List, [], ◌∷◌, ◌++◌, ◌⊎◌, inl, inr, refl, sym, ap, ◌∙◌, subst, arith, cond}
use Rattle.reading.specs.Row.{Entry, Row, Signs, tokens, Shallow, starts, Fits}
use Rattle.reading.specs.Language.{Language, Either}
use Rattle.reading.specs.Reader.{Done, Unexpected, TooDeep, Reader, pair_first, choose_pair}
use Rattle.reading.specs.Good.{Good, Passed, ReadFrom, StopsAt, DeepAt}

-- rows of two entries or more, of which the first two pass the tests
pub record AtPair {T A : Type 0} (limit : ℕ) (one two : T → Bool) (P : Language T A) : Type 0 where
  pub shape : (a : A) (row : Row T) → P a row → (m : Entry T) × (n : Entry T) × (g : Row T) × (row ≡ m ∷ n ∷ g) × (one m.token ≡ true) × (two n.token ≡ true) × (m.depth ≤ limit)
  pub same : (t : T) → one t ≡ true → (a : A) × (m : Entry T) × (tail : Row T) × P a (m ∷ tail) × (m.token ≡ t)

-- rows that begin otherwise
pub record OffPair {T A : Type 0} (limit : ℕ) (one two : T → Bool) (S : Language T A) : Type 0 where
  pub shape : (a : A) (m : Entry T) (row : Row T) → S a (m ∷ row) → one m.token ≡ true → (n : Entry T) (g : Row T) → row ≡ n ∷ g → two n.token ≡ false
  pub flat : (a : A) (m : Entry T) (row : Row T) → S a (m ∷ row) → one m.token ≡ true → m.depth ≤ limit
  pub nonempty : (a : A) → S a [] → ⊥
  pub same : (t : T) → one t ≡ true → (a : A) × (m : Entry T) × (tail : Row T) × S a (m ∷ tail) × (m.token ≡ t)

module _ {T A : Type 0} {signs : Signs T} (limit : ℕ) (c one two : T → Bool) (P S : Language T A) (p s : Reader T A) (gp : Good signs limit c P p) (gs : Good signs limit c S s)
    (pair : AtPair limit one two P) (off : OffPair limit one two S) (within : (t : T) → two t ≡ true → c t ≡ true) where
  flag : (t : T) (ts : List T) (b d : Bool) → one t ≡ b → starts two ts ≡ d → pair_first one two (t ∷ ts) ≡ cond b d false
  flag t ts b d e h = ap (λ x. cond x (starts two ts) false) e ∙ ap (λ y. cond b y false) h

  on_flag : (ts : List T) (b : Bool) → pair_first one two ts ≡ b → choose_pair one two p s ts ≡ cond b (p ts) (s ts)
  on_flag ts b e = ap (λ x. cond x (p ts) (s ts)) e

  pair_done : (ts : List T) (a : A) (rest : List T) (b : Bool) → cond b (p ts) (s ts) ≡ Done a rest → ReadFrom limit (Either P S) ts a rest
  pair_done ts a rest true h = let d = gp.done ts a rest h in (d.0, inl d.1, d.2, d.3)
  pair_done ts a rest false h = let d = gs.done ts a rest h in (d.0, inr d.1, d.2, d.3)

  pair_unexpected : (ts rest : List T) (b : Bool) → cond b (p ts) (s ts) ≡ Unexpected rest → StopsAt limit (Either P S) ts rest
  pair_unexpected ts rest true h = let d = gp.unexpected ts rest h in (d.0, d.1, d.2, inl d.3, d.4, d.5)
  pair_unexpected ts rest false h = let d = gs.unexpected ts rest h in (d.0, d.1, d.2, inr d.3, d.4, d.5)

  pair_too_deep : (ts rest : List T) (b : Bool) → cond b (p ts) (s ts) ≡ TooDeep rest → DeepAt signs limit (Either P S) ts rest
  pair_too_deep ts rest true h = let d = gp.too_deep ts rest h in (d.0, d.1, d.2, d.3, d.4, inl d.5, d.6, d.7, d.8, d.9, d.10)
  pair_too_deep ts rest false h = let d = gs.too_deep ts rest h in (d.0, d.1, d.2, d.3, d.4, inr d.5, d.6, d.7, d.8, d.9, d.10)

  -- the list that a row and what follows it make, told by its first two tokens
  first_on : (a : A) (x : Entry T) (row : Row T) (ts : List T) → P a (x ∷ row) → ((n : Entry T) (g : Row T) → row ≡ n ∷ g → starts two ts ≡ two n.token) → pair_first one two (x.token ∷ ts) ≡ true
  first_on a x row ts r follows =
      let w = pair.shape a (x ∷ row) r in
      let e = w.3 in
      let first : x ≡ w.0 = cc in
      let back : row ≡ w.1 ∷ w.2 = cc in
      flag x.token ts true true (ap (λ y. one y.token) first ∙ w.4) (follows w.1 w.2 back ∙ w.5)

  other_off : (a : A) (x : Entry T) (row : Row T) (ts : List T) (b : Bool) → one x.token ≡ b → S a (x ∷ row) → (starts two ts ≡ false) ⊎ ((n : Entry T) × (g : Row T) × (row ≡ n ∷ g) × (starts two ts ≡ two n.token))
      → pair_first one two (x.token ∷ ts) ≡ false
  other_off a x row ts false e r follows = ap (λ y. cond y (starts two ts) false) e
  other_off a x row ts true e r (inl none) = flag x.token ts true false e none
  other_off a x row ts true e r (inr (n, g, is, same)) = flag x.token ts true false e (same ∙ off.shape a x row r e n g is)

  stops : (rest : List T) → starts c rest ≡ false → starts two rest ≡ false
  stops [] e = refl
  stops (t ∷ rest) e = at (two t) refl
    where
      at : (b : Bool) → two t ≡ b → two t ≡ false
      at true h = let bad : c t ≡ true = within t h in cc
      at false h = h

  other_whole : (a : A) (row : Row T) (rest : List T) → S a row → starts c rest ≡ false → pair_first one two (tokens row ++ rest) ≡ false
  other_whole a [] rest r e = absurd (off.nonempty a r)
  other_whole a (x ∷ []) rest r e = other_off a x [] rest (one x.token) refl r (inl (stops rest e))
  other_whole a (x ∷ y ∷ row) rest r e = other_off a x (y ∷ row) (y.token ∷ (tokens row ++ rest)) (one x.token) refl r (inr (y, row, refl, refl))

  first_whole : (a : A) (row : Row T) (rest : List T) → P a row → pair_first one two (tokens row ++ rest) ≡ true
  first_whole a [] rest r = absurd (let w = pair.shape a [] r in let e = w.3 in cc)
  first_whole a (x ∷ row) rest r = first_on a x row (tokens row ++ rest) r (λ n g e. ap (λ y. starts two (tokens y ++ rest)) e)

  first_in : (a : A) (x : Entry T) (row : Row T) (m : Entry T) (tail : Row T) (rest : List T) → P a ((x ∷ row) ++ m ∷ tail) → pair_first one two (tokens (x ∷ row) ++ m.token ∷ rest) ≡ true
  first_in a x [] m tail rest r = first_on a x (m ∷ tail) (m.token ∷ rest) r (λ n g e. let same : m ≡ n = cc in ap (λ y. two y.token) same)
  first_in a x (y ∷ row) m tail rest r = first_on a x (y ∷ (row ++ m ∷ tail)) (y.token ∷ (tokens row ++ m.token ∷ rest)) r (λ n g e. let same : y ≡ n = cc in ap (λ z. two z.token) same)

  other_in : (a : A) (x : Entry T) (row : Row T) (m : Entry T) (tail : Row T) (rest : List T) → S a ((x ∷ row) ++ m ∷ tail) → pair_first one two (tokens (x ∷ row) ++ m.token ∷ rest) ≡ false
  other_in a x [] m tail rest r = other_off a x (m ∷ tail) (m.token ∷ rest) (one x.token) refl r (inr (m, tail, refl, refl))
  other_in a x (y ∷ row) m tail rest r = other_off a x (y ∷ (row ++ m ∷ tail)) (y.token ∷ (tokens row ++ m.token ∷ rest)) (one x.token) refl r (inr (y, row ++ m ∷ tail, refl, refl))

  -- either reader gets past a first token that both may begin with
  first_passes : (t : T) (rest : List T) → one t ≡ true → Passed rest (p (t ∷ rest))
  first_passes t rest e = let w = pair.same t e in subst (λ u. Passed rest (p (u ∷ rest))) w.4 (gp.passes w.0 [] w.1 w.2 rest w.3 tt)

  other_passes : (t : T) (rest : List T) → one t ≡ true → Passed rest (s (t ∷ rest))
  other_passes t rest e = let w = off.same t e in subst (λ u. Passed rest (s (u ∷ rest))) w.4 (gs.passes w.0 [] w.1 w.2 rest w.3 tt)

  is_one : (t : T) (ts : List T) (b : Bool) → one t ≡ b → pair_first one two (t ∷ ts) ≡ true → one t ≡ true
  is_one t ts true e h = e
  is_one t ts false e h = let bad : false ≡ true = sym (ap (λ y. cond y (starts two ts) false) e) ∙ h in cc

  pair_passes : (a : A) (row : Row T) (m : Entry T) (tail : Row T) (rest : List T) → Either P S a (row ++ m ∷ tail) → Shallow limit row → Passed rest (choose_pair one two p s (tokens row ++ m.token ∷ rest))
  pair_passes a [] m tail rest (inl r) sh = at (pair_first one two (m.token ∷ rest))
    where
      head : one m.token ≡ true
      head = let w = pair.shape a (m ∷ tail) r in let e = w.3 in let first : m ≡ w.0 = cc in ap (λ y. one y.token) first ∙ w.4

      at : (b : Bool) → Passed rest (cond b (p (m.token ∷ rest)) (s (m.token ∷ rest)))
      at true = first_passes m.token rest head
      at false = other_passes m.token rest head
  pair_passes a [] m tail rest (inr r) sh = at (pair_first one two (m.token ∷ rest)) refl
    where
      at : (b : Bool) → pair_first one two (m.token ∷ rest) ≡ b → Passed rest (cond b (p (m.token ∷ rest)) (s (m.token ∷ rest)))
      at true e = first_passes m.token rest (is_one m.token rest (one m.token) refl e)
      at false e = gs.passes a [] m tail rest r tt
  pair_passes a (x ∷ row) m tail rest (inl r) sh =
      subst (Passed rest) (sym (on_flag (tokens (x ∷ row) ++ m.token ∷ rest) true (first_in a x row m tail rest r))) (gp.passes a (x ∷ row) m tail rest r sh)
  pair_passes a (x ∷ row) m tail rest (inr r) sh =
      subst (Passed rest) (sym (on_flag (tokens (x ∷ row) ++ m.token ∷ rest) false (other_in a x row m tail rest r))) (gs.passes a (x ∷ row) m tail rest r sh)

  -- the first token nests nowhere
  pair_deep : (a : A) (row : Row T) (m : Entry T) (tail : Row T) (rest : List T)
      → Either P S a (row ++ m ∷ tail) → Shallow limit row → limit < m.depth → Fits signs m tail rest → choose_pair one two p s (tokens row ++ m.token ∷ rest) ≡ TooDeep (m.token ∷ rest)
  pair_deep a [] m tail rest (inl r) sh lt fits =
      absurd (let w = pair.shape a (m ∷ tail) r in let e = w.3 in let first : m ≡ w.0 = cc in let depths : m.depth ≡ w.0.depth = ap (λ y. y.depth) first in omega (arith, w.6))
  pair_deep a [] m tail rest (inr r) sh lt fits = at (one m.token) refl
    where
      at : (b : Bool) → one m.token ≡ b → choose_pair one two p s (m.token ∷ rest) ≡ TooDeep (m.token ∷ rest)
      at true e = absurd (omega (arith, off.flat a m tail r e))
      at false e = on_flag (m.token ∷ rest) false (ap (λ y. cond y (starts two rest) false) e) ∙ gs.deep a [] m tail rest r tt lt fits
  pair_deep a (x ∷ row) m tail rest (inl r) sh lt fits = on_flag (tokens (x ∷ row) ++ m.token ∷ rest) true (first_in a x row m tail rest r) ∙ gp.deep a (x ∷ row) m tail rest r sh lt fits
  pair_deep a (x ∷ row) m tail rest (inr r) sh lt fits = on_flag (tokens (x ∷ row) ++ m.token ∷ rest) false (other_in a x row m tail rest r) ∙ gs.deep a (x ∷ row) m tail rest r sh lt fits

  pair_all : Good signs limit c (Either P S) (choose_pair one two p s)
  pair_all = record {
    example = (gs.example.0, gs.example.1, inr gs.example.2);
    done = λ ts a rest h. pair_done ts a rest (pair_first one two ts) h;
    unexpected = λ ts rest h. pair_unexpected ts rest (pair_first one two ts) h;
    too_deep = λ ts rest h. pair_too_deep ts rest (pair_first one two ts) h;
    complete = λ a row rest r sh stop. elim r [
      | inl w ↦ on_flag (tokens row ++ rest) true (first_whole a row rest w) ∙ gp.complete a row rest w sh stop
      | inr w ↦ on_flag (tokens row ++ rest) false (other_whole a row rest w stop) ∙ gs.complete a row rest w sh stop
    ];
    passes = pair_passes;
    deep = pair_deep;
    ends = λ a row m r lt. elim r [ inl w ↦ gp.ends a row m w lt | inr w ↦ gs.ends a row m w lt ];
  }

-- where one token more may follow the second rule, it is none of the second test, or the choice would go wrong there
pub good_pair : {T A : Type 0} {signs : Signs T} {limit : ℕ} {c one two : T → Bool} {P S : Language T A} {p s : Reader T A} → Good signs limit c P p → Good signs limit c S s
    → AtPair limit one two P → OffPair limit one two S → ((t : T) → two t ≡ true → c t ≡ true) → Good signs limit c (Either P S) (choose_pair one two p s)
good_pair {limit} {c} {one} {two} {P} {S} {p} {s} gp gs at off within = pair_all limit c one two P S p s gp gs at off within
