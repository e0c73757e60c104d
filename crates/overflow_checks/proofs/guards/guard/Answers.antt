use Rattle.std.proofs.Common.{◌≡◌, sym, subst}
use Rattle.std.proofs.lemmas.Result.{IfOk-weaker}
use Rattle.iv_words.specs.Kinds.{width, is_signed}
use Rattle.c_ast.specs.Targets.{table_of}
use Rattle.c_ast.specs.View.{expr_of}
use Rattle.overflow_checks.specs.Contract.{IsGuard, IsOperandOf, IsMadeOf, guard_levels}
use Rattle.overflow_checks.specs.Forms.{guard_for}
use Rattle.overflow_checks.proofs.GuardRows.{guards_are_right}
use Rattle.overflow_checks.proofs.Made.{guards_are_made}
use Rattle.overflow_checks.proofs.guards.guard.Goals as goal

pub returns-clause-exact : goal.returns-clause-exact
returns-clause-exact c =
    let x = c.args in
    let a = expr_of x.a in
    let b = expr_of x.b in
    IfOk-weaker c.guard_of_kind.result (λ e. expr_of e ≡ guard_for (table_of x.t).int_bits (width x.kind) (is_signed x.kind) x.op x.which a b) (λ e. IsGuard x.t x.op x.kind x.which a b (expr_of e))
    (λ e is. subst (IsGuard x.t x.op x.kind x.which a b) (sym is) (guards_are_right x.t x.op x.kind x.which a b c.requires.allowed c.requires.check c.requires.left c.requires.right))
    c.guard_of_kind.ensures

pub returns-clause-parts : goal.returns-clause-parts
returns-clause-parts c =
    let x = c.args in
    let a = expr_of x.a in
    let b = expr_of x.b in
    IfOk-weaker c.guard_of_kind.result (λ e. expr_of e ≡ guard_for (table_of x.t).int_bits (width x.kind) (is_signed x.kind) x.op x.which a b) (λ e. IsMadeOf x.t (IsOperandOf x.op a b) (expr_of e) guard_levels)
    (λ e is. subst (λ r. IsMadeOf x.t (IsOperandOf x.op a b) r guard_levels) (sym is) (guards_are_made x.t x.op x.kind x.which a b c.requires.left c.requires.right))
    c.guard_of_kind.ensures
