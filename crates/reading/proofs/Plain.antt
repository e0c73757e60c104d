-- No row of a rule ends in a sign, at whatever nesting. It is needed where the rule nests too deep to be read at all.
use Rattle.std.proofs.Common.{◌≡◌, ℕ, false, List, [], ◌∷◌, ◌++◌, inl, inr, sym, ap, ◌∙◌, subst, Option, Some, None}
use Rattle.reading.specs.Row.{Entry, Row, Signs}
use Rattle.reading.specs.Language.{Language, Terminal, Given, Mapped, Spanned, Then, Either, Headed, Optional, Many, Prefixed}
use Rattle.reading.proofs.Rows.{has_one, only_one, front_nil, back_nil, split_at}

pub record Plain {T A : Type 0} (signs : Signs T) (R : Language T A) : Type 0 where
  pub ends : (a : A) (row : Row T) (m : Entry T) → R a (row ++ m ∷ []) → signs.sign m.token ≡ false

pub plain_terminal : {T A : Type 0} {signs : Signs T} {d : ℕ} {select : T → Option A} → ((t : T) (a : A) → select t ≡ Some a → signs.sign t ≡ false) → Plain signs (Terminal {A = A} d select)
plain_terminal {select} h = record {
  ends = λ a row m (n, e, is, sel). let same : m ≡ n = only_one row m n [] e in h m.token a (ap (λ x. select x.token) same ∙ sel);
}

pub plain_given : {T A : Type 0} {signs : Signs T} → (a : A) → Plain signs (Given {T = T} a)
plain_given a = record { ends = λ b row m (is, e). absurd (has_one row m [] e) }

pub plain_mapped : {T A B : Type 0} {signs : Signs T} {R : Language T A} (f : A → B) → Plain signs R → Plain signs (Mapped f R)
plain_mapped f p = record { ends = λ b row m (a, r, is). p.ends a row m r }

pub plain_spanned : {T A B : Type 0} {signs : Signs T} {R : Language T A} (f : A → List T → B) → Plain signs R → Plain signs (Spanned f R)
plain_spanned f p = record { ends = λ b row m (a, r, is). p.ends a row m r }

pub plain_either : {T A : Type 0} {signs : Signs T} {P Q : Language T A} → Plain signs P → Plain signs Q → Plain signs (Either P Q)
plain_either p q = record { ends = λ a row m r. elim r [ inl w ↦ p.ends a row m w | inr w ↦ q.ends a row m w ] }

pub plain_as : {T A : Type 0} {signs : Signs T} {R S : Language T A} → ((a : A) (row : Row T) → S a row → R a row) → Plain signs R → Plain signs S
plain_as from p = record { ends = λ a row m r. p.ends a row m (from a (row ++ m ∷ []) r) }

optional_ends : {T A : Type 0} {signs : Signs T} {R : Language T A} → Plain signs R → (o : Option A) (row : Row T) (m : Entry T) → Optional R o (row ++ m ∷ []) → signs.sign m.token ≡ false
optional_ends p None row m e = absurd (has_one row m [] e)
optional_ends p (Some a) row m r = p.ends a row m r

pub plain_optional : {T A : Type 0} {signs : Signs T} {R : Language T A} → Plain signs R → Plain signs (Optional R)
plain_optional p = record { ends = optional_ends p }

pub plain_headed : {T A H : Type 0} {signs : Signs T} {R : H → Language T A} {Other : Language T A} → ((h : H) → Plain signs (R h)) → Plain signs Other → Plain signs (Headed R Other)
plain_headed rules other = record { ends = λ a row m r. elim r [ inl (h, w) ↦ (rules h).ends a row m w | inr w ↦ other.ends a row m w ] }

-- the second rule may be empty
pub plain_then : {T A B : Type 0} {signs : Signs T} {P : Language T A} {Q : A → Language T B} → Plain signs P → ((a : A) → Plain signs (Q a)) → Plain signs (Then P Q)
plain_then {P} {Q} p q = record {
  ends = λ b row m (a, f, g, e, pf, qg). elim (split_at row m [] f g e) [
    | inl (h, here, there) ↦ (q a).ends b h m (subst (Q a b) there qg)
    | inr (h, here, there) ↦ p.ends a row m (subst (λ x. P a (row ++ m ∷ x)) (front_nil h g there) (subst (P a) here pf))
  ];
}

-- the second rule is never empty, so that it has the last token
pub plain_last : {T A B : Type 0} {signs : Signs T} {P : Language T A} {Q : A → Language T B} → ((a : A) → Plain signs (Q a)) → ((a : A) (b : B) → Q a b [] → ⊥) → Plain signs (Then P Q)
plain_last {Q} q nonempty = record {
  ends = λ b row m (a, f, g, e, pf, qg). elim (split_at row m [] f g e) [
    | inl (h, here, there) ↦ (q a).ends b h m (subst (Q a b) there qg)
    | inr (h, here, there) ↦ absurd (nonempty a b (subst (Q a b) (back_nil h g there) qg))
  ];
}

many_ends : {T A : Type 0} {signs : Signs T} {R : Language T A} → Plain signs R → (vs : List A) (row : Row T) (m : Entry T) → Many R vs (row ++ m ∷ []) → signs.sign m.token ≡ false
many_ends p [] row m e = absurd (has_one row m [] e)
many_ends {R} p (v ∷ vs) row m (f, g, e, r, more) =
    elim (split_at row m [] f g e) [
      | inl (h, here, there) ↦ many_ends p vs h m (subst (Many R vs) there more)
      | inr (h, here, there) ↦ p.ends v row m (subst (λ x. R v (row ++ m ∷ x)) (front_nil h g there) (subst (R v) here r))
    ]

pub plain_many : {T A : Type 0} {signs : Signs T} {R : Language T A} → Plain signs R → Plain signs (Many R)
plain_many p = record { ends = many_ends p }

pub prefixed_ends : {T A B : Type 0} (signs : Signs T) (d : ℕ) (f : A → List T → B) (R : Language T A) → Plain signs R
    → (b : B) (row : Row T) (m : Entry T) → Prefixed signs d f R b (row ++ m ∷ []) → signs.sign m.token ≡ false
prefixed_ends signs d f R p b [] m (x, k, n, g, e, at, is, isnt, r, v) = cc
prefixed_ends signs d f R p b (y ∷ row) m (x, k, n, g, e, at, is, isnt, r, v) = let back : row ++ m ∷ [] ≡ n ∷ g = cc in p.ends x row m (subst (R x) (sym back) r)

pub plain_prefixed : {T A B : Type 0} (signs : Signs T) (d : ℕ) (f : A → List T → B) (R : Language T A) → Plain signs R → Plain signs (Prefixed signs d f R)
plain_prefixed signs d f R p = record { ends = prefixed_ends signs d f R p }

no_terminal : {T A : Type 0} {d : ℕ} (select : T → Option A) (a : A) → Terminal d select a [] → ⊥
no_terminal select a (n, e, at, sel) = cc

-- a row that ends in a token which is no sign
pub ends_in_terminal : {T A : Type 0} (signs : Signs T) (d : ℕ) (select : T → Option A) → ((t : T) (a : A) → select t ≡ Some a → signs.sign t ≡ false)
    → (a : A) (f h row : Row T) (m : Entry T) → Terminal d select a h → f ++ h ≡ row ++ m ∷ [] → signs.sign m.token ≡ false
ends_in_terminal signs d select plain a f h row m t e = elim (split_at row m [] f h (sym e)) [
  | inl (k, here, there) ↦ (plain_terminal {signs = signs} plain).ends a k m (subst (Terminal d select a) there t)
  | inr (k, here, there) ↦ absurd (no_terminal select a (subst (Terminal d select a) (back_nil k h there) t))
]
