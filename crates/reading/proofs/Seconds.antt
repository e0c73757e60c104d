-- What does not stand second in a row, behind a first token of some kind: for a choice by the first two tokens.
use Rattle.std.proofs.Common.{◌≡◌, ℕ, ◌≤◌, Bool, true, false, List, [], ◌∷◌, ◌++◌, inl, inr, sym, ap, ◌∙◌, subst, Option}
use Rattle.reading.specs.Row.{Entry, Row}
use Rattle.reading.specs.Language.{Language, Terminal, Mapped, Spanned, Then, Either}
use Rattle.reading.proofs.TwoTokens.{OffPair}
use Rattle.reading.proofs.Starts.{StartsWithout}

pub record NotSecond {T A : Type 0} (one two : T → Bool) (R : Language T A) : Type 0 where
  pub second : (a : A) (m n : Entry T) (row : Row T) → R a (m ∷ n ∷ row) → one m.token ≡ true → two n.token ≡ false

-- a single token has none behind it
pub not_second_terminal : {T A : Type 0} {one two : T → Bool} (d : ℕ) (select : T → Option A) → NotSecond one two (Terminal {A = A} d select)
not_second_terminal d select = record { second = λ a m n row (k, e, at, sel) is. cc }

pub not_second_mapped : {T A B : Type 0} {one two : T → Bool} {R : Language T A} (f : A → B) → NotSecond one two R → NotSecond one two (Mapped f R)
not_second_mapped f s = record { second = λ b m n row (a, r, is). s.second a m n row r }

pub not_second_spanned : {T A B : Type 0} {one two : T → Bool} {R : Language T A} (f : A → List T → B) → NotSecond one two R → NotSecond one two (Spanned f R)
not_second_spanned f s = record { second = λ b m n row (a, r, is). s.second a m n row r }

pub not_second_either : {T A : Type 0} {one two : T → Bool} {P Q : Language T A} → NotSecond one two P → NotSecond one two Q → NotSecond one two (Either P Q)
not_second_either p q = record { second = λ a m n row r. elim r [ inl w ↦ p.second a m n row w | inr w ↦ q.second a m n row w ] }

-- a rule that begins otherwise
pub not_second_without : {T A : Type 0} {one two : T → Bool} {R : Language T A} → StartsWithout one R → NotSecond one two R
not_second_without {one} s = record { second = λ a m n row r is. let isnt : one m.token ≡ false = s.first a m (n ∷ row) r in cc }

pub not_second_as : {T A : Type 0} {one two : T → Bool} {R S : Language T A} → ((a : A) (row : Row T) → S a row → R a row) → NotSecond one two R → NotSecond one two S
not_second_as from s = record { second = λ a m n row r. s.second a m n row (from a (m ∷ n ∷ row) r) }

-- behind a single token what follows begins otherwise
pub not_second_then : {T A B : Type 0} {one two : T → Bool} {P : Language T A} {Q : A → Language T B} → NotSecond one two P → ((a : A) → P a [] → ⊥) → ((a : A) → StartsWithout two (Q a))
    → NotSecond one two (Then P Q)
not_second_then {T} {A} {B} {one} {two} {P} {Q} s nonempty follows = record { second = λ b m n row (a, f, g, e, p, q) is. at b a f g m n row e p q is }
  where
    at : (b : B) (a : A) (f g : Row T) (m n : Entry T) (row : Row T) → m ∷ n ∷ row ≡ f ++ g → P a f → Q a b g → one m.token ≡ true → two n.token ≡ false
    at b a [] g m n row e p q is = absurd (nonempty a p)
    at b a (k ∷ []) g m n row e p q is = let behind : n ∷ row ≡ g = cc in (follows a).first b n row (subst (Q a b) (sym behind) q)
    at b a (k ∷ l ∷ f) g m n row e p q is =
        let first : m ≡ k = cc in
        let second : n ≡ l = cc in
        subst (λ x. two x.token ≡ false) (sym second) (s.second a k l f p (ap (λ x. one x.token) (sym first) ∙ is))

-- such a rule stands beside one that begins with both tokens
pub off_pair : {T A : Type 0} {limit : ℕ} {one two : T → Bool} {S : Language T A} → NotSecond one two S → ((a : A) (m : Entry T) (row : Row T) → S a (m ∷ row) → one m.token ≡ true → m.depth ≤ limit)
    → ((a : A) → S a [] → ⊥) → ((t : T) → one t ≡ true → (a : A) × (m : Entry T) × (tail : Row T) × S a (m ∷ tail) × (m.token ≡ t)) → OffPair limit one two S
off_pair {T} {A} {limit} {one} {two} {S} s flat nonempty same = record {
  shape = λ a m row r is n g e. s.second a m n g (subst (λ x. S a (m ∷ x)) e r) is;
  flat = flat;
  nonempty = nonempty;
  same = same;
}
