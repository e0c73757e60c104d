use Rattle.std.proofs.Common.{Err, ap, ◌∙◌, arith}
use Rattle.std.proofs.lemmas.Result.{err_from_is_err_and}
use Rattle.ivory_tree.specs.View.{stmt_of}
use Rattle.first_form.specs.Stands.{StmtStands}
use Rattle.first_form.proofs.Lists.{each_taken, not_each}
use Rattle.first_form.proofs.Refusals.{refused_on}
use Rattle.first_form.proofs.call.first_calls.Goals as goal

pub returns-in_err-first_stmt-clause-refused : goal.returns-in_err-first_stmt-clause-refused
returns-in_err-first_stmt-clause-refused c =
    let p = err_from_is_err_and c.from_residual-in_err-first_stmt.result c.from_residual-in_err-first_stmt.ensures.1 in
    refused_on c.from_residual-in_err-first_stmt.result c.in_err-first_stmt.field-0.0 (p.1 ∙ ap Err p.2) c.in_err-first_stmt.ensures.refused
    (not_each stmt_of (StmtStands c.args.imports.now) _ _ c.stmt-item.result (omega arith) c.stmt-item.is)

pub loop-stmt-preserved : goal.loop-stmt-preserved
loop-stmt-preserved c =
    each_taken stmt_of (StmtStands c.args.imports.now) _ _ _ _ c.stmt-item.result c.in_ok-first_stmt.field-0 c.loop-stmt.invariant (omega arith) c.stmt-item.is c.in_ok-first_stmt.ensures.ok c.in_ok-push.ensures.ok
