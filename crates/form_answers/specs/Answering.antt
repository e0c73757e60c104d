-- When the guards of a form's checks tell whether they hold: in their order, each where those before it hold.
use Rattle.std.specs.Prelude.{Bool, true, false, List, [], ◌∷◌, IsTrue}
use Rattle.core_tree.specs.declared.Check.{Check}
use Rattle.core_tree.specs.declared.SiteKind.{SiteKind}
use Rattle.core_meaning.specs.Checks.{Answer, holds}
use Rattle.c_ast.specs.Syntax.{Expr}
use Rattle.c_meaning.specs.State.{Program, CState}
use Rattle.form_answers.specs.Standing.{TestIs}

-- a check that is settled holds; the guard of another is true just where the check holds
abbrev pub GuardTells : (is_settled : Bool) → Program → CState → Expr → Bool → Type 0
GuardTells true p u guard does = IsTrue does
GuardTells false p u guard does = TestIs p u guard does

module _ (p : Program) (u : CState) (guard : SiteKind → Expr) (is_settled : SiteKind → Bool) (answer : Answer) where
  abbrev pub GuardsTell : List Check → Type 0
  GuardsTell [] = Unit {0}
  GuardsTell (c ∷ cs) = GuardTells (is_settled c.kind) p u (guard c.kind) (holds answer c.kind) × (IsTrue (holds answer c.kind) → GuardsTell cs)
