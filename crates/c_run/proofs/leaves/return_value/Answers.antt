use Rattle.std.proofs.lemmas.Result.{err_from_is_err_and}
use Rattle.c_ast.specs.View.{expr_of}
use Rattle.c_run.proofs.Statements.{return_goes, return_stops}
use Rattle.c_run.proofs.leaves.return_value.Goals as goal

pub returns-in_err-v : goal.returns-in_err-v
returns-in_err-v c =
    let q = err_from_is_err_and c.from_residual.result c.from_residual.ensures.1 in
    rw (q.1, q.2) (return_stops c.args.program.now (expr_of c.args.e.now) c.args.run.now c.value_step.new.run c.in_err-v.field-0.0 c.in_err-v.ensures)

pub returns : goal.returns
returns c = return_goes c.args.program.now (expr_of c.args.e.now) c.args.run.now c.value_step.new.run c.in_ok-v.v c.in_ok-v.ensures
