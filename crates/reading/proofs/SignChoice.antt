-- A choice by whether a sign stands that no number follows: there it is a prefix operator, before a number its sign.
use Rattle.std.proofs.Common.{◌≡◌, ℕ, ◌≤◌, ◌<◌, Bool, true, false, not, List, [], ◌∷◌, ◌++◌, inl, inr, refl, sym, ap, ◌∙◌, subst, arith, cond}
use Rattle.reading.specs.Row.{Entry, Row, Signs, tokens, Shallow, starts, Fits}
use Rattle.reading.specs.Language.{Language, Either}
use Rattle.reading.specs.Reader.{Done, Unexpected, TooDeep, Reader, sign_first, choose_sign}
use Rattle.reading.specs.Good.{Good, Passed, ReadFrom, StopsAt, DeepAt}

-- a reader that is asked only at a sign that no number follows
pub record GoodAtSign {T A : Type 0} (signs : Signs T) (limit : ℕ) (goes_on : T → Bool) (R : Language T A) (p : Reader T A) : Type 0 where
  pub done : (ts : List T) (a : A) (rest : List T) → sign_first signs ts ≡ true → p ts ≡ Done a rest → ReadFrom limit R ts a rest
  pub unexpected : (ts rest : List T) → sign_first signs ts ≡ true → p ts ≡ Unexpected rest → StopsAt limit R ts rest
  pub too_deep : (ts rest : List T) → sign_first signs ts ≡ true → p ts ≡ TooDeep rest → DeepAt signs limit R ts rest
  pub complete : (a : A) (row : Row T) (rest : List T) → R a row → Shallow limit row → starts goes_on rest ≡ false → p (tokens row ++ rest) ≡ Done a rest
  pub passes : (a : A) (row : Row T) (m : Entry T) (tail : Row T) (rest : List T) → R a (row ++ m ∷ tail) → Shallow limit row
      → sign_first signs (tokens row ++ m.token ∷ rest) ≡ true → Passed rest (p (tokens row ++ m.token ∷ rest))
  pub passes_first : (t : T) (rest : List T) → sign_first signs (t ∷ rest) ≡ true → Passed rest (p (t ∷ rest))
  pub deep : (a : A) (row : Row T) (m : Entry T) (tail : Row T) (rest : List T) → R a (row ++ m ∷ tail) → Shallow limit row
      → limit < m.depth → Fits signs m tail rest → sign_first signs (tokens row ++ m.token ∷ rest) ≡ true → p (tokens row ++ m.token ∷ rest) ≡ TooDeep (m.token ∷ rest)
  pub ends : (a : A) (row : Row T) (m : Entry T) → R a (row ++ m ∷ []) → limit < m.depth → signs.sign m.token ≡ false

-- each row begins with a sign that no number follows
pub record Operators {T A : Type 0} (signs : Signs T) (R : Language T A) : Type 0 where
  pub shape : (a : A) (row : Row T) → R a row → (m : Entry T) × (n : Entry T) × (g : Row T) × (row ≡ m ∷ n ∷ g) × (signs.sign m.token ≡ true) × (signs.number n.token ≡ false)

-- where a row begins with a sign, a number follows; there is a row for each sign, so that a sign begins something
pub record Others {T A : Type 0} (signs : Signs T) (limit : ℕ) (S : Language T A) : Type 0 where
  pub shape : (a : A) (m : Entry T) (row : Row T) → S a (m ∷ row) → signs.sign m.token ≡ true → (n : Entry T) × (g : Row T) × (row ≡ n ∷ g) × (signs.number n.token ≡ true) × (m.depth ≤ limit)
  pub nonempty : (a : A) → S a [] → ⊥
  pub sign : (t : T) → signs.sign t ≡ true → (a : A) × (m : Entry T) × (tail : Row T) × S a (m ∷ tail) × (m.token ≡ t)

pub sign_flag : {T : Type 0} (signs : Signs T) (t : T) (ts : List T) (b c : Bool) → signs.sign t ≡ b → starts signs.number ts ≡ c → sign_first signs (t ∷ ts) ≡ cond b (not c) false
sign_flag signs t ts b c e h = ap (λ x. cond x (not (starts signs.number ts)) false) e ∙ ap (λ y. cond b (not y) false) h

module _ {T A : Type 0} {signs : Signs T} (limit : ℕ) (c : T → Bool) (P S : Language T A) (p s : Reader T A)
    (gp : GoodAtSign signs limit c P p) (gs : Good signs limit c S s) (operators : Operators signs P) (others : Others signs limit S) where
  on_flag : (ts : List T) (b : Bool) → sign_first signs ts ≡ b → choose_sign signs p s ts ≡ cond b (p ts) (s ts)
  on_flag ts b e = ap (λ x. cond x (p ts) (s ts)) e

  choice_done : (ts : List T) (a : A) (rest : List T) (b : Bool) → sign_first signs ts ≡ b → cond b (p ts) (s ts) ≡ Done a rest → ReadFrom limit (Either P S) ts a rest
  choice_done ts a rest true e h = let d = gp.done ts a rest e h in (d.0, inl d.1, d.2, d.3)
  choice_done ts a rest false e h = let d = gs.done ts a rest h in (d.0, inr d.1, d.2, d.3)

  choice_unexpected : (ts rest : List T) (b : Bool) → sign_first signs ts ≡ b → cond b (p ts) (s ts) ≡ Unexpected rest → StopsAt limit (Either P S) ts rest
  choice_unexpected ts rest true e h = let d = gp.unexpected ts rest e h in (d.0, d.1, d.2, inl d.3, d.4, d.5)
  choice_unexpected ts rest false e h = let d = gs.unexpected ts rest h in (d.0, d.1, d.2, inr d.3, d.4, d.5)

  choice_too_deep : (ts rest : List T) (b : Bool) → sign_first signs ts ≡ b → cond b (p ts) (s ts) ≡ TooDeep rest → DeepAt signs limit (Either P S) ts rest
  choice_too_deep ts rest true e h = let d = gp.too_deep ts rest e h in (d.0, d.1, d.2, d.3, d.4, inl d.5, d.6, d.7, d.8, d.9, d.10)
  choice_too_deep ts rest false e h = let d = gs.too_deep ts rest h in (d.0, d.1, d.2, d.3, d.4, inr d.5, d.6, d.7, d.8, d.9, d.10)

  -- a prefix operator's row and what follows it
  operator_on : (a : A) (row : Row T) (rest : List T) → P a row → sign_first signs (tokens row ++ rest) ≡ true
  operator_on a row rest r =
      let w = operators.shape a row r in
      ap (λ x. sign_first signs (tokens x ++ rest)) w.3 ∙ sign_flag signs w.0.token (w.1.token ∷ (tokens w.2 ++ rest)) true false w.4 w.5

  -- where at least one entry stands before m
  operator_on_in : (a : A) (x : Entry T) (row : Row T) (m : Entry T) (tail : Row T) (rest : List T) → P a ((x ∷ row) ++ m ∷ tail) → sign_first signs (tokens (x ∷ row) ++ m.token ∷ rest) ≡ true
  operator_on_in a x [] m tail rest r =
      let w = operators.shape a (x ∷ m ∷ tail) r in
      let e = w.3 in
      let first : x ≡ w.0 = cc in
      let second : m ≡ w.1 = cc in
      sign_flag signs x.token (m.token ∷ rest) true false (ap (λ y. signs.sign y.token) first ∙ w.4) (ap (λ y. signs.number y.token) second ∙ w.5)
  operator_on_in a x (y ∷ row) m tail rest r =
      let w = operators.shape a (x ∷ y ∷ (row ++ m ∷ tail)) r in
      let e = w.3 in
      let first : x ≡ w.0 = cc in
      let second : y ≡ w.1 = cc in
      sign_flag signs x.token (y.token ∷ (tokens row ++ m.token ∷ rest)) true false (ap (λ z. signs.sign z.token) first ∙ w.4) (ap (λ z. signs.number z.token) second ∙ w.5)

  other_head : (a : A) (x : Entry T) (row : Row T) (ts : List T) (b : Bool) → signs.sign x.token ≡ b → S a (x ∷ row)
      → ((n : Entry T) (g : Row T) → row ≡ n ∷ g → starts signs.number ts ≡ signs.number n.token) → sign_first signs (x.token ∷ ts) ≡ false
  other_head a x row ts true e r follows =
      let w = others.shape a x row r e in
      sign_flag signs x.token ts true true e (follows w.0 w.1 w.2 ∙ w.3)
  other_head a x row ts false e r follows = ap (λ y. cond y (not (starts signs.number ts)) false) e

  other_off : (a : A) (row : Row T) (rest : List T) → S a row → sign_first signs (tokens row ++ rest) ≡ false
  other_off a [] rest r = absurd (others.nonempty a r)
  other_off a (x ∷ row) rest r = other_head a x row (tokens row ++ rest) (signs.sign x.token) refl r (λ n g e. ap (λ y. starts signs.number (tokens y ++ rest)) e)

  other_off_in : (a : A) (x : Entry T) (row : Row T) (m : Entry T) (tail : Row T) (rest : List T) → S a ((x ∷ row) ++ m ∷ tail) → sign_first signs (tokens (x ∷ row) ++ m.token ∷ rest) ≡ false
  other_off_in a x [] m tail rest r = other_head a x (m ∷ tail) (m.token ∷ rest) (signs.sign x.token) refl r (λ n g e. let same : m ≡ n = cc in ap (λ y. signs.number y.token) same)
  other_off_in a x (y ∷ row) m tail rest r =
      other_head a x (y ∷ (row ++ m ∷ tail)) (y.token ∷ (tokens row ++ m.token ∷ rest)) (signs.sign x.token) refl r (λ n g e. let same : y ≡ n = cc in ap (λ z. signs.number z.token) same)

  operator_first : (a : A) (m : Entry T) (tail : Row T) → P a (m ∷ tail) → (signs.sign m.token ≡ true) × (starts signs.number (tokens tail) ≡ false)
  operator_first a m tail r =
      let w = operators.shape a (m ∷ tail) r in
      let e = w.3 in
      let first : m ≡ w.0 = cc in
      let back : tail ≡ w.1 ∷ w.2 = cc in
      (ap (λ y. signs.sign y.token) first ∙ w.4, ap (λ y. starts signs.number (tokens y)) back ∙ w.5)

  sign_passes : (t : T) (rest : List T) → signs.sign t ≡ true → Passed rest (s (t ∷ rest))
  sign_passes t rest is =
      let w = others.sign t is in
      subst (λ u. Passed rest (s (u ∷ rest))) w.4 (gs.passes w.0 [] w.1 w.2 rest w.3 tt)

  choice_passes : (a : A) (row : Row T) (m : Entry T) (tail : Row T) (rest : List T) → Either P S a (row ++ m ∷ tail) → Shallow limit row → Passed rest (choose_sign signs p s (tokens row ++ m.token ∷ rest))
  choice_passes a [] m tail rest (inl r) sh = at (sign_first signs (m.token ∷ rest)) refl
    where
      at : (b : Bool) → sign_first signs (m.token ∷ rest) ≡ b → Passed rest (cond b (p (m.token ∷ rest)) (s (m.token ∷ rest)))
      at true e = gp.passes_first m.token rest e
      at false e = sign_passes m.token rest ((operator_first a m tail r).0)
  choice_passes a [] m tail rest (inr r) sh = at (sign_first signs (m.token ∷ rest)) refl
    where
      at : (b : Bool) → sign_first signs (m.token ∷ rest) ≡ b → Passed rest (cond b (p (m.token ∷ rest)) (s (m.token ∷ rest)))
      at true e = gp.passes_first m.token rest e
      at false e = gs.passes a [] m tail rest r tt
  choice_passes a (x ∷ row) m tail rest (inl r) sh =
      let e = operator_on_in a x row m tail rest r in
      subst (Passed rest) (sym (on_flag (tokens (x ∷ row) ++ m.token ∷ rest) true e)) (gp.passes a (x ∷ row) m tail rest r sh e)
  choice_passes a (x ∷ row) m tail rest (inr r) sh =
      let e = other_off_in a x row m tail rest r in
      subst (Passed rest) (sym (on_flag (tokens (x ∷ row) ++ m.token ∷ rest) false e)) (gs.passes a (x ∷ row) m tail rest r sh)

  choice_deep : (a : A) (row : Row T) (m : Entry T) (tail : Row T) (rest : List T) → Either P S a (row ++ m ∷ tail) → Shallow limit row → limit < m.depth → Fits signs m tail rest
      → choose_sign signs p s (tokens row ++ m.token ∷ rest) ≡ TooDeep (m.token ∷ rest)
  choice_deep a [] m tail rest (inl r) sh lt fits =
      let w = operator_first a m tail r in
      let e = sign_flag signs m.token rest true false w.0 (sym (fits w.0) ∙ w.1) in
      on_flag (m.token ∷ rest) true e ∙ gp.deep a [] m tail rest r tt lt fits e
  choice_deep a [] m tail rest (inr r) sh lt fits = at (signs.sign m.token) refl
    where
      at : (b : Bool) → signs.sign m.token ≡ b → choose_sign signs p s (m.token ∷ rest) ≡ TooDeep (m.token ∷ rest)
      at true e = absurd (let w = others.shape a m tail r e in omega (arith, w.4))
      at false e = on_flag (m.token ∷ rest) false (ap (λ y. cond y (not (starts signs.number rest)) false) e) ∙ gs.deep a [] m tail rest r tt lt fits
  choice_deep a (x ∷ row) m tail rest (inl r) sh lt fits =
      let e = operator_on_in a x row m tail rest r in
      on_flag (tokens (x ∷ row) ++ m.token ∷ rest) true e ∙ gp.deep a (x ∷ row) m tail rest r sh lt fits e
  choice_deep a (x ∷ row) m tail rest (inr r) sh lt fits =
      on_flag (tokens (x ∷ row) ++ m.token ∷ rest) false (other_off_in a x row m tail rest r) ∙ gs.deep a (x ∷ row) m tail rest r sh lt fits

  sign_all : Good signs limit c (Either P S) (choose_sign signs p s)
  sign_all = record {
    example = (gs.example.0, gs.example.1, inr gs.example.2);
    done = λ ts a rest h. choice_done ts a rest (sign_first signs ts) refl h;
    unexpected = λ ts rest h. choice_unexpected ts rest (sign_first signs ts) refl h;
    too_deep = λ ts rest h. choice_too_deep ts rest (sign_first signs ts) refl h;
    complete = λ a row rest r sh stop. elim r [
      | inl w ↦ on_flag (tokens row ++ rest) true (operator_on a row rest w) ∙ gp.complete a row rest w sh stop
      | inr w ↦ on_flag (tokens row ++ rest) false (other_off a row rest w) ∙ gs.complete a row rest w sh stop
    ];
    passes = choice_passes;
    deep = choice_deep;
    ends = λ a row m r lt. elim r [ inl w ↦ gp.ends a row m w lt | inr w ↦ gs.ends a row m w lt ];
  }

pub good_sign_choice : {T A : Type 0} {signs : Signs T} {limit : ℕ} {c : T → Bool} {P S : Language T A} {p s : Reader T A} → GoodAtSign signs limit c P p → Good signs limit c S s
    → Operators signs P → Others signs limit S → Good signs limit c (Either P S) (choose_sign signs p s)
good_sign_choice {limit} {c} {P} {S} {p} {s} gp gs operators others = sign_all limit c P S p s gp gs operators others
