-- Rules in which a sign that stands first belongs to a number: what stands beside a prefix operator is such a rule.
use Rattle.std.proofs.Common.{◌≡◌, ℕ, ◌≤◌, true, false, List, [], ◌∷◌, ◌++◌, inl, inr, refl, sym, ap, ◌∙◌, subst, arith, Option, Some}
use Rattle.reading.specs.Row.{Entry, Row, Signs, tokens}
use Rattle.reading.specs.Language.{Language, Terminal, Mapped, Spanned, Then, After, Either}
use Rattle.reading.proofs.SignChoice.{Others}
use Rattle.reading.proofs.Starts.{StartsWithout}

-- a sign and a number
pub others_literal : {T N O : Type 0} {signs : Signs T} {limit d : ℕ} (select : T → Option O) (num : T → Option N) → d ≤ limit
    → ((t : T) (n : N) → num t ≡ Some n → signs.number t ≡ true) → ((t : T) → signs.sign t ≡ true → (o : O) × (select t ≡ Some o)) → (n : N) × (t : T) × (num t ≡ Some n)
    → Others signs limit (After (Terminal d select) (Terminal d num))
others_literal {T} {N} {signs = signs} {limit} {d} select num within is_number picks example = record {
  shape = λ a m row (o, f, g, e, (k, one, at, sel), (n, two, there, number)) is.
      let both : m ∷ row ≡ k ∷ n ∷ [] = e ∙ ap (λ x. x ++ g) one ∙ ap (λ x. k ∷ x) two in
      let first : m ≡ k = cc in
      let second : row ≡ n ∷ [] = cc in
      let depths : m.depth ≡ d = ap (λ x. x.depth) first ∙ at in
      (n, [], second, is_number n.token a number, omega arith);
  nonempty = λ a (o, f, g, e, (k, one, at, sel), q). let none : [] ≡ k ∷ g = e ∙ ap (λ x. x ++ g) one in cc;
  sign = λ t is.
      let w = picks t is in
      let m : Entry T = record { token = t; depth = d } in
      let n : Entry T = record { token = example.1; depth = d } in
      (example.0, m, n ∷ [], (w.0, m ∷ [], n ∷ [], refl, (m, refl, refl, w.1), (n, refl, refl, example.2)), refl);
}

pub others_mapped : {T A B : Type 0} {signs : Signs T} {limit : ℕ} {R : Language T A} (f : A → B) → Others signs limit R → Others signs limit (Mapped f R)
others_mapped f s = record {
  shape = λ b m row (a, r, is). s.shape a m row r;
  nonempty = λ b (a, r, is). s.nonempty a r;
  sign = λ t is. let w = s.sign t is in (f w.0, w.1, w.2, (w.0, w.3, refl), w.4);
}

pub others_spanned : {T A B : Type 0} {signs : Signs T} {limit : ℕ} {R : Language T A} (f : A → List T → B) → Others signs limit R → Others signs limit (Spanned f R)
others_spanned f s = record {
  shape = λ b m row (a, r, is). s.shape a m row r;
  nonempty = λ b (a, r, is). s.nonempty a r;
  sign = λ t is. let w = s.sign t is in (f w.0 (tokens (w.1 ∷ w.2)), w.1, w.2, (w.0, w.3, refl), w.4);
}

-- beside a rule that begins with no sign
pub others_either : {T A : Type 0} {signs : Signs T} {limit : ℕ} {P Q : Language T A} → Others signs limit P → StartsWithout signs.sign Q → ((a : A) → Q a [] → ⊥) → Others signs limit (Either P Q)
others_either {T} {A} {signs} {limit} {P} {Q} s other nonempty = record {
  shape = λ a m row r is. elim r [ inl w ↦ s.shape a m row w is | inr w ↦ absurd (let isnt : signs.sign m.token ≡ false = other.first a m row w in cc) ];
  nonempty = λ a r. elim r [ inl w ↦ s.nonempty a w | inr w ↦ nonempty a w ];
  sign = λ t is. let w = s.sign t is in (w.0, w.1, w.2, inl w.3, w.4);
}

pub others_beside : {T A : Type 0} {signs : Signs T} {limit : ℕ} {P Q : Language T A} → StartsWithout signs.sign P → ((a : A) → P a [] → ⊥) → Others signs limit Q → Others signs limit (Either P Q)
others_beside {T} {A} {signs} {limit} {P} {Q} other nonempty s = record {
  shape = λ a m row r is. elim r [ inl w ↦ absurd (let isnt : signs.sign m.token ≡ false = other.first a m row w in cc) | inr w ↦ s.shape a m row w is ];
  nonempty = λ a r. elim r [ inl w ↦ nonempty a w | inr w ↦ s.nonempty a w ];
  sign = λ t is. let w = s.sign t is in (w.0, w.1, w.2, inr w.3, w.4);
}

-- with something behind it
pub others_then : {T A B : Type 0} {signs : Signs T} {limit : ℕ} {P : Language T A} {Q : A → Language T B} → Others signs limit P → ((a : A) → (b : B) × (row : Row T) × Q a b row) → Others signs limit (Then P Q)
others_then {T} {A} {B} {signs} {limit} {P} {Q} s more = record {
  shape = λ b m row (a, f, g, e, p, q) is. at a f m row g e p is;
  nonempty = λ b (a, f, g, e, p, q). empty a f g e p;
  sign = λ t is.
      let w = s.sign t is in
      let x = more w.0 in
      (x.0, w.1, w.2 ++ x.1, (w.0, w.1 ∷ w.2, x.1, refl, w.3, x.2), w.4);
}
  where
    more_behind : (m k : Entry T) (row f g : Row T) → m ≡ k → row ≡ f ++ g → (n : Entry T) × (h : Row T) × (f ≡ n ∷ h) × (signs.number n.token ≡ true) × (k.depth ≤ limit)
        → (n : Entry T) × (h : Row T) × (row ≡ n ∷ h) × (signs.number n.token ≡ true) × (m.depth ≤ limit)
    more_behind m k row f g first back (n, h, is, number, low) = (n, h ++ g, back ∙ ap (λ x. x ++ g) is, number, subst (λ x. x.depth ≤ limit) (sym first) low)

    at : (a : A) (f : Row T) (m : Entry T) (row g : Row T) → m ∷ row ≡ f ++ g → P a f → signs.sign m.token ≡ true
        → (n : Entry T) × (h : Row T) × (row ≡ n ∷ h) × (signs.number n.token ≡ true) × (m.depth ≤ limit)
    at a [] m row g e p is = absurd (s.nonempty a p)
    at a (k ∷ f) m row g e p is =
        let first : m ≡ k = cc in
        let back : row ≡ f ++ g = cc in
        more_behind m k row f g first back (s.shape a k f p (ap (λ x. signs.sign x.token) (sym first) ∙ is))

    empty : (a : A) (f g : Row T) → [] ≡ f ++ g → P a f → ⊥
    empty a [] g e p = s.nonempty a p
    empty a (k ∷ f) g e p = cc

pub others_as : {T A : Type 0} {signs : Signs T} {limit : ℕ} {R S : Language T A} → ((a : A) (row : Row T) → R a row → S a row) → ((a : A) (row : Row T) → S a row → R a row)
    → Others signs limit R → Others signs limit S
others_as to from s = record {
  shape = λ a m row r. s.shape a m row (from a (m ∷ row) r);
  nonempty = λ a r. s.nonempty a (from a [] r);
  sign = λ t is. let w = s.sign t is in (w.0, w.1, w.2, to w.0 (w.1 ∷ w.2) w.3, w.4);
}
