-- Guards of checks in a row tell what those of the kinds of checks do, one by one.
use Rattle.std.proofs.Common.{◌≡◌, Bool, true, false, IsTrue, refl, sym, subst}
use Rattle.std.specs.Prelude.{List, [], ◌∷◌, Ok}
use Rattle.core_tree.specs.declared.Check.{Check}
use Rattle.core_tree.specs.declared.SiteKind.{SiteKind}
use Rattle.core_tree.specs.Operators.{unless}
use Rattle.core_meaning.specs.Checks.{Answer, holds}
use Rattle.c_ast.specs.Syntax.{Expr}
use Rattle.c_meaning.specs.Operators.{truth}
use Rattle.c_meaning.specs.Values.{is_true, on_ok}
use Rattle.c_meaning.specs.State.{Program, CState}
use Rattle.overflow_checks.proofs.Rows.{Tests}
use Rattle.form_answers.specs.Answering.{GuardTells, GuardsTell}
use Rattle.form_answers.specs.FormLaws.{AreFor, never}
use Rattle.form_answers.specs.Standing.{TestIs}

-- ---- one guard

truth_is_true : (b : Bool) → is_true (truth b) ≡ Ok b
truth_is_true true = refl
truth_is_true false = refl

-- a guard that evaluates to a truth
pub truth_tested : (p : Program) (u : CState) (guard : Expr) (b : Bool) → Tests p u guard b → TestIs p u guard b
truth_tested p u guard b h = subst (λ r. on_ok r is_true ≡ Ok b) (sym h) (truth_is_true b)

pub tells : (settled : Bool) (p : Program) (u : CState) (guard : Expr) (does : Bool) → (settled ≡ true → IsTrue does) → TestIs p u guard does → GuardTells settled p u guard does
tells true p u guard does s t = s refl
tells false p u guard does s t = t

-- ---- guards in a row

module _ (p : Program) (u : CState) (guard : SiteKind → Expr) (is_settled : SiteKind → Bool) (answer : Answer) where
  abbrev pub Tells : SiteKind → Type 0
  Tells which = GuardTells (is_settled which) p u (guard which) (holds answer which)

  -- of these kinds each tells, where those before it hold
  abbrev pub EachTells : List SiteKind → Type 0
  EachTells [] = Unit {0}
  EachTells (which ∷ rest) = Tells which × (IsTrue (holds answer which) → EachTells rest)

  pub guards_tell : (cs : List Check) (kinds : List SiteKind) → AreFor cs kinds → EachTells kinds → GuardsTell p u guard is_settled answer cs
  guards_tell [] kinds e t = tt
  guards_tell (c ∷ cs) [] e t = cc
  guards_tell (c ∷ cs) (which ∷ rest) e t =
      let is : which ≡ c.kind = cc in
      let later : AreFor cs rest = cc in
      (subst Tells is t.0, λ h. guards_tell cs rest later (t.1 (subst (λ k. IsTrue (holds answer k)) (sym is) h)))

-- at most one guard, which is never settled
pub one_tells : (p : Program) (u : CState) (guard : SiteKind → Expr) (answer : Answer) (cs : List Check) (needless : Bool) (which : SiteKind)
    → AreFor cs (unless needless which) → TestIs p u (guard which) (holds answer which) → GuardsTell p u guard never answer cs
one_tells p u guard answer cs true which e t = guards_tell p u guard never answer cs [] e tt
one_tells p u guard answer cs false which e t = guards_tell p u guard never answer cs (which ∷ []) e (t, λ h. tt)
