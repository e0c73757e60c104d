use Rattle.std.proofs.Common.{◌≡◌, sym, subst}
use Rattle.std.proofs.lemmas.Result.{IfOk-weaker}
use Rattle.iv_words.specs.Kinds.{width, is_signed}
use Rattle.c_ast.specs.View.{expr_of}
use Rattle.overflow_checks.specs.Contract.{IsComputation, IsOperandOf, IsMadeOf, computation_levels}
use Rattle.overflow_checks.specs.Forms.{computation_for}
use Rattle.overflow_checks.proofs.ComputationRows.{computations_are_right}
use Rattle.overflow_checks.proofs.Made.{computations_are_made}
use Rattle.overflow_checks.proofs.computations.compute.Goals as goal

pub returns-clause-exact : goal.returns-clause-exact
returns-clause-exact c =
    let x = c.args in
    let a = expr_of x.a in
    let b = expr_of x.b in
    IfOk-weaker c.computation_of_kind.result (λ e. expr_of e ≡ computation_for (width x.kind) (is_signed x.kind) x.op a b) (λ e. IsComputation x.t x.op x.kind a b (expr_of e))
    (λ e is. subst (IsComputation x.t x.op x.kind a b) (sym is) (computations_are_right x.t x.op x.kind a b c.requires.allowed c.requires.left c.requires.right))
    c.computation_of_kind.ensures

pub returns-clause-parts : goal.returns-clause-parts
returns-clause-parts c =
    let x = c.args in
    let a = expr_of x.a in
    let b = expr_of x.b in
    IfOk-weaker c.computation_of_kind.result (λ e. expr_of e ≡ computation_for (width x.kind) (is_signed x.kind) x.op a b) (λ e. IsMadeOf x.t (IsOperandOf x.op a b) (expr_of e) computation_levels)
    (λ e is. subst (λ r. IsMadeOf x.t (IsOperandOf x.op a b) r computation_levels) (sym is) (computations_are_made x.t x.op x.kind a b c.requires.left c.requires.right))
    c.computation_of_kind.ensures
