use Rattle.std.proofs.lemmas.Result.{err_from_is_err_and}
use Rattle.c_ast.specs.View.{expr_of}
use Rattle.c_run.proofs.Statements.{const_goes, const_stops}
use Rattle.c_run.proofs.leaves.const_name.Goals as goal

pub returns-in_err-v : goal.returns-in_err-v
returns-in_err-v c =
    let q = err_from_is_err_and c.from_residual.result c.from_residual.ensures.1 in
    rw (q.1, q.2) (const_stops c.args.program.now c.args.name.now c.args.ty.now (expr_of c.args.e.now) c.args.run.now c.value_step.new.run c.in_err-v.field-0.0 c.in_err-v.ensures)

pub returns : goal.returns
returns c = const_goes c.args.program.now c.args.name.now c.args.ty.now (expr_of c.args.e.now) c.args.run.now c.value_step.new.run c.declaration.new.run c.in_ok-v.v c.declaration.result c.in_ok-v.ensures c.declaration.ensures
