-- With which tokens the rows of a rule begin, and that they are not empty.
use Rattle.std.proofs.Common.{◌≡◌, ℕ, Bool, true, false, List, [], ◌∷◌, ◌++◌, inl, inr, refl, sym, ap, ◌∙◌, subst, Option, Some, None, cond}
use Rattle.reading.specs.Row.{Entry, Row, Signs}
use Rattle.reading.specs.Language.{Language, Terminal, Given, Mapped, Spanned, Then, Either, Headed, Optional, Many, Prefixed, kept, passing}
use Rattle.reading.proofs.Rows.{append_nil}

pub record StartsWith {T A : Type 0} (test : T → Bool) (R : Language T A) : Type 0 where
  pub first : (a : A) (m : Entry T) (row : Row T) → R a (m ∷ row) → test m.token ≡ true
  pub nonempty : (a : A) → R a [] → ⊥

-- the rows may be empty
pub record StartsWithout {T A : Type 0} (test : T → Bool) (R : Language T A) : Type 0 where
  pub first : (a : A) (m : Entry T) (row : Row T) → R a (m ∷ row) → test m.token ≡ false

-- one token of two tests
abbrev pub either : {T : Type 0} → (T → Bool) → (T → Bool) → T → Bool
either p q t = cond (p t) true (q t)

pub either_first : {T : Type 0} (p q : T → Bool) (t : T) → p t ≡ true → either p q t ≡ true
either_first p q t e = ap (λ x. cond x true (q t)) e

pub either_second : {T : Type 0} (p q : T → Bool) (t : T) → q t ≡ true → either p q t ≡ true
either_second p q t e = at (p t)
  where
    at : (b : Bool) → cond b true (q t) ≡ true
    at true = refl
    at false = e

pub either_none : {T : Type 0} (p q : T → Bool) (t : T) → p t ≡ false → q t ≡ false → either p q t ≡ false
either_none p q t e h = ap (λ x. cond x true (q t)) e ∙ h

pub first_mark : {T A : Type 0} {d : ℕ} (select : T → Option A) {x : A} (test : T → Bool) (f : Row T) → ((t : T) (y : A) → select t ≡ Some y → test t ≡ true)
    → Terminal d select x f → (m : Entry T) (row g : Row T) → m ∷ row ≡ f ++ g → test m.token ≡ true
first_mark select {x} test f h (n, is, at, sel) m row g e =
    let e2 : m ∷ row ≡ n ∷ g = e ∙ ap (λ y. y ++ g) is in
    let same : m ≡ n = cc in
    subst (λ y. test y.token ≡ true) (sym same) (h n.token x sel)

pub terminal_nonempty : {T A : Type 0} {d : ℕ} (select : T → Option A) {x : A} (f : Row T) → Terminal d select x f → (g : Row T) → [] ≡ f ++ g → ⊥
terminal_nonempty select f (n, is, at, sel) g e = let e2 : [] ≡ n ∷ g = e ∙ ap (λ y. y ++ g) is in cc

pub starts_terminal : {T A : Type 0} {d : ℕ} {select : T → Option A} (test : T → Bool) → ((t : T) (y : A) → select t ≡ Some y → test t ≡ true) → StartsWith test (Terminal {A = A} d select)
starts_terminal test h = record {
  first = λ x m row t. first_mark _ test (m ∷ row) h t m row [] (sym (append_nil (m ∷ row)));
  nonempty = λ x t. terminal_nonempty _ [] t [] refl;
}

pub starts_then : {T A B : Type 0} {P : Language T A} {Q : A → Language T B} {test : T → Bool} → StartsWith test P → StartsWith test (Then P Q)
starts_then {T} {A} {B} {P} {Q} {test} s = record {
  first = λ b m row (x, f, g, e, p, q). at x f m row g e p;
  nonempty = λ b (x, f, g, e, p, q). empty x f g e p;
}
  where
    at : (x : A) (f : Row T) (m : Entry T) (row g : Row T) → m ∷ row ≡ f ++ g → P x f → test m.token ≡ true
    at x [] m row g e p = absurd (s.nonempty x p)
    at x (n ∷ f) m row g e p = let same : m ≡ n = cc in subst (λ y. test y.token ≡ true) (sym same) (s.first x n f p)

    empty : (x : A) (f g : Row T) → [] ≡ f ++ g → P x f → ⊥
    empty x [] g e p = s.nonempty x p
    empty x (n ∷ f) g e p = cc

pub starts_mapped : {T A B : Type 0} {R : Language T A} {test : T → Bool} (f : A → B) → StartsWith test R → StartsWith test (Mapped f R)
starts_mapped f s = record { first = λ v m row (x, r, is). s.first x m row r; nonempty = λ v (x, r, is). s.nonempty x r }

pub starts_spanned : {T A B : Type 0} {R : Language T A} {test : T → Bool} (f : A → List T → B) → StartsWith test R → StartsWith test (Spanned f R)
starts_spanned f s = record { first = λ v m row (x, r, is). s.first x m row r; nonempty = λ v (x, r, is). s.nonempty x r }

pub starts_either : {T A : Type 0} {P Q : Language T A} (p q : T → Bool) → StartsWith p P → StartsWith q Q → StartsWith (either p q) (Either P Q)
starts_either p q s t = record {
  first = λ v m row r. elim r [ inl w ↦ either_first p q m.token (s.first v m row w) | inr w ↦ either_second p q m.token (t.first v m row w) ];
  nonempty = λ v r. elim r [ inl w ↦ s.nonempty v w | inr w ↦ t.nonempty v w ];
}

pub starts_headed : {T A H : Type 0} {R : H → Language T A} {Other : Language T A} {test : T → Bool} → ((h : H) → StartsWith test (R h)) → StartsWith test Other → StartsWith test (Headed R Other)
starts_headed rules other = record {
  first = λ v m row r. elim r [ inl (h, w) ↦ (rules h).first v m row w | inr w ↦ other.first v m row w ];
  nonempty = λ v r. elim r [ inl (h, w) ↦ (rules h).nonempty v w | inr w ↦ other.nonempty v w ];
}

pub starts_as : {T A : Type 0} {R S : Language T A} {test : T → Bool} → ((v : A) (row : Row T) → S v row → R v row) → StartsWith test R → StartsWith test S
starts_as from s = record { first = λ v m row r. s.first v m row (from v (m ∷ row) r); nonempty = λ v r. s.nonempty v (from v [] r) }

pub starts_wider : {T A : Type 0} {R : Language T A} {test wide : T → Bool} → ((t : T) → test t ≡ true → wide t ≡ true) → StartsWith test R → StartsWith wide R
starts_wider h s = record { first = λ v m row r. h m.token (s.first v m row r); nonempty = s.nonempty }

pub starts_prefixed : {T A B : Type 0} (signs : Signs T) (d : ℕ) (f : A → List T → B) (R : Language T A) → StartsWith signs.sign (Prefixed signs d f R)
starts_prefixed signs d f R = record {
  first = λ v m row (x, k, n, g, e, at, is, isnt, r, b). let same : m ≡ k = cc in ap (λ y. signs.sign y.token) same ∙ is;
  nonempty = λ v (x, k, n, g, e, at, is, isnt, r, b). cc;
}

-- of two tests no token passes both
pub starts_apart : {T A : Type 0} {R : Language T A} {test : T → Bool} (other : T → Bool) → ((t : T) → test t ≡ true → other t ≡ false) → StartsWith test R → StartsWithout other R
starts_apart other apart s = record { first = λ v m row r. apart m.token (s.first v m row r) }

pub without_given : {T A : Type 0} (test : T → Bool) (a : A) → StartsWithout {T = T} test (Given a)
without_given test a = record { first = λ b m row (is, e). cc }

pub without_mapped : {T A B : Type 0} {R : Language T A} {test : T → Bool} (f : A → B) → StartsWithout test R → StartsWithout test (Mapped f R)
without_mapped f s = record { first = λ b m row (a, r, is). s.first a m row r }

pub without_spanned : {T A B : Type 0} {R : Language T A} {test : T → Bool} (f : A → List T → B) → StartsWithout test R → StartsWithout test (Spanned f R)
without_spanned f s = record { first = λ b m row (a, r, is). s.first a m row r }

pub without_as : {T A : Type 0} {R S : Language T A} {test : T → Bool} → ((v : A) (row : Row T) → S v row → R v row) → StartsWithout test R → StartsWithout test S
without_as from s = record { first = λ v m row r. s.first v m row (from v (m ∷ row) r) }

pub without_either : {T A : Type 0} {P Q : Language T A} {test : T → Bool} → StartsWithout test P → StartsWithout test Q → StartsWithout test (Either P Q)
without_either p q = record { first = λ v m row r. elim r [ inl w ↦ p.first v m row w | inr w ↦ q.first v m row w ] }

-- the first token of a list is that of its first element
pub many_first : {T A : Type 0} {test : T → Bool} {R : Language T A} → StartsWith test R → (vs : List A) (m : Entry T) (row : Row T) → Many R vs (m ∷ row) → test m.token ≡ true
many_first s [] m row e = cc
many_first {T} {A} {test} {R} s (v ∷ vs) m row (f, g, e, r, others) = at f e r
  where
    at : (f : Row T) → m ∷ row ≡ f ++ g → R v f → test m.token ≡ true
    at [] e r = absurd (s.nonempty v r)
    at (n ∷ f) e r = let same : m ≡ n = cc in subst (λ x. test x.token ≡ true) (sym same) (s.first v n f r)

passed : {T : Type 0} (b : Bool) (t u : T) → kept b t ≡ Some u → b ≡ true
passed true t u e = refl
passed false t u e = cc

pub passing_passes : {T : Type 0} (test : T → Bool) (t u : T) → passing test t ≡ Some u → test t ≡ true
passing_passes test t u e = passed (test t) t u e

pub passing_some : {T : Type 0} (test : T → Bool) (t : T) → test t ≡ true → passing test t ≡ Some t
passing_some test t e = ap (λ b. kept b t) e

pub without_many : {T A : Type 0} {test other : T → Bool} {R : Language T A} → StartsWith test R → ((t : T) → test t ≡ true → other t ≡ false) → StartsWithout other (Many R)
without_many s apart = record { first = λ vs m row r. apart m.token (many_first s vs m row r) }

optional_first : {T A : Type 0} {test : T → Bool} {R : Language T A} → StartsWithout test R → (o : Option A) (m : Entry T) (row : Row T) → Optional R o (m ∷ row) → test m.token ≡ false
optional_first s None m row e = cc
optional_first s (Some a) m row r = s.first a m row r

pub without_optional : {T A : Type 0} {test : T → Bool} {R : Language T A} → StartsWithout test R → StartsWithout test (Optional R)
without_optional s = record { first = optional_first s }
