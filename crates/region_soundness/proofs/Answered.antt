-- What a form answers is covered by its checks, and a number that it answers is a value of its type.
use Rattle.std.proofs.Common.{◌≡◌, ℤ, Bool, true, false, ◌||◌, if◌then◌else◌, List, [], ◌∷◌, map, Option, Some, Result, Ok, Err, IsTrue, refl, subst, ap, ◌∙◌}
use Rattle.std.specs.List.{list_any}
use Rattle.area_types.specs.Syntax.{ValueType}
use Rattle.area_types.specs.Tables.{Table}
use Rattle.core_tree.specs.declared.Check.{Check}
use Rattle.core_tree.specs.declared.SiteKind.{SiteKind}
use Rattle.core_tree.specs.declared.SiteKind.TheVariants.{Overflow, DivZero, Shift, Index, Cast, Assert, Pre, Post}
use Rattle.core_tree.specs.Syntax.{Label}
use Rattle.core_tree.specs.Operators.{unless}
use Rattle.core_tree.specs.Types.{is_value}
use Rattle.core_tree.specs.TypedExpressions.{Checked}
use Rattle.core_meaning.specs.Checks.{Answer, same_kind, covered}

pub record Answered (table : Table) (l : Label) (answer : Answer) : Type 0 where
  pub covers : IsTrue (covered answer l.checks)
  pub fits : (v : ℤ) → answer ≡ Ok v → IsTrue (is_value table l.ty v)

-- a form on one number of the type `given`
pub record AnswersOne (table : Table) (given : ValueType) (l : Label) (form : Option (ℤ → Answer)) : Type 0 where
  pub answer : ℤ → Answer
  pub has : form ≡ Some answer
  pub each : (a : ℤ) → IsTrue (is_value table given a) → Answered table l (answer a)

-- and on two
pub record AnswersTwo (table : Table) (left right : ValueType) (l : Label) (form : Option (ℤ → ℤ → Answer)) : Type 0 where
  pub answer : ℤ → ℤ → Answer
  pub has : form ≡ Some answer
  pub each : (a b : ℤ) → IsTrue (is_value table left a) → IsTrue (is_value table right b) → Answered table l (answer a b)

-- ---- checks

kinds_tested : (p : SiteKind → Bool) (checks : List Check) → list_any (λ (c : Check). p c.kind) checks ≡ list_any p (map (λ (c : Check). c.kind) checks)
kinds_tested p [] = refl
kinds_tested p (c ∷ cs) = ap (λ b. p c.kind || b) (kinds_tested p cs)

-- there is a check of each kind that the form's are of
pub kind_covered : (checks : List Check) (kinds : List SiteKind) (kind : SiteKind) → Checked checks kinds → IsTrue (list_any (same_kind kind) kinds) → IsTrue (covered (Err kind) checks)
kind_covered checks kinds kind c h = kinds_tested (same_kind kind) checks ∙ ap (list_any (same_kind kind)) c.of_kinds ∙ h

only : (kind : SiteKind) → IsTrue (list_any (same_kind kind) (kind ∷ []))
only Overflow = refl
only DivZero = refl
only Shift = refl
only Index = refl
only Cast = refl
only Assert = refl
only Pre = refl
only Post = refl

-- ---- answers

ok_same : {A B : Type 0} (x y : A) → (let r : Result A B = Ok x in r) ≡ Ok y → x ≡ y
ok_same x y e = cc

pub number : (table : Table) (l : Label) (v : ℤ) → IsTrue (is_value table l.ty v) → Answered table l (Ok v)
number table l v h = record { covers = refl; fits = λ w e. subst (λ z. IsTrue (is_value table l.ty z)) (ok_same v w e) h }

pub failing : (table : Table) (l : Label) (kind : SiteKind) → IsTrue (covered (Err kind) l.checks) → Answered table l (Err kind)
failing table l kind h = record { covers = h; fits = λ w e. let no : ⊥ = cc in absurd no }

-- A number behind a test: a form that is not sure of it has a check for it.
pub guarded : (table : Table) (l : Label) (test sure : Bool) (v : ℤ) (kind : SiteKind) → Checked l.checks (unless sure kind)
    → (sure ≡ true → test ≡ true) → (test ≡ true → IsTrue (is_value table l.ty v)) → Answered table l (if test then Ok v else Err kind)
guarded table l true sure v kind c h f = number table l v (f refl)
guarded table l false false v kind c h f = failing table l kind (kind_covered l.checks (kind ∷ []) kind c (only kind))
guarded table l false true v kind c h f = let no : ⊥ = let e = h refl in cc in absurd no
