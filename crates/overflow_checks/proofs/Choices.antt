-- What `||` and `&&` give where their operands give truths: the right one counts only where the left one does not decide.
use Rattle.std.proofs.Common.{◌≡◌, Bool, true, false, Result, Ok, refl, ap, ◌∙◌}
use Rattle.std.specs.Prelude.{◌||◌, ◌&&◌}
use Rattle.run_records.specs.declared.Reason.{Reason}
use Rattle.c_ast.specs.declared.CBinary.{CBinary}
use Rattle.c_ast.specs.declared.CBinary.TheVariants.{AndAlso, OrElse}
use Rattle.c_ast.specs.Syntax.{Expr, Binary}
use Rattle.c_ast.specs.Targets.{table_of}
use Rattle.c_meaning.specs.Values.{Trouble, CValue, on_ok}
use Rattle.c_meaning.specs.Operators.{truth, tested, binary}
use Rattle.c_meaning.specs.State.{Program, CState}
use Rattle.c_meaning.specs.Expressions.{eval}
use Rattle.overflow_checks.proofs.Rows.{Tests}

truth_of_truth : (b : Bool) → tested (truth b) ≡ Ok (truth b)
truth_of_truth true = refl
truth_of_truth false = refl

module _ (p : Program) (s : CState) (a b : Expr) where
  left : (op : CBinary) (x : Bool) → Tests p s a x → eval p (Binary op a b) s ≡ binary (table_of p.target) op (truth x) (eval p b s)
  left op x h = ap (λ r. let q : Result CValue Trouble = on_ok r (λ v. binary (table_of p.target) op v (eval p b s)) in q) h

  right : (y : Bool) → Tests p s b y → on_ok (eval p b s) tested ≡ Ok (truth y)
  right y h = ap (λ r. on_ok r tested) h ∙ truth_of_truth y

  pub or_else_tests : (x y : Bool) → Tests p s a x → (x ≡ false → Tests p s b y) → Tests p s (Binary OrElse a b) (x || y)
  or_else_tests true y h k = left OrElse true h
  or_else_tests false y h k = left OrElse false h ∙ right y (k refl)

  pub and_also_tests : (x y : Bool) → Tests p s a x → (x ≡ true → Tests p s b y) → Tests p s (Binary AndAlso a b) (x && y)
  and_also_tests true y h k = left AndAlso true h ∙ right y (k refl)
  and_also_tests false y h k = left AndAlso false h
