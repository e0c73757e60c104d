use Rattle.std.proofs.lemmas.Result.{err_from_is_err_and}
use Rattle.c_ast.specs.View.{expr_of, place_of}
use Rattle.c_meaning.specs.Expressions.{eval_place}
use Rattle.c_expressions.specs.Places.{lvalue_of}
use Rattle.c_expressions.specs.Programs.{program_of}
use Rattle.c_expressions.specs.State.{state_of}
use Rattle.c_statements.proofs.ConvertedArguments.{found}
use Rattle.c_run.proofs.Statements.{assign_goes, assign_stops}
use Rattle.c_run.proofs.leaves.assignment.Goals as goal

pub returns-in_err-v : goal.returns-in_err-v
returns-in_err-v c =
    let q = err_from_is_err_and c.from_residual-in_err-v.result c.from_residual-in_err-v.ensures.1 in
    let p = c.args.program.now in
    let is = found (Unit {0}) lvalue_of (eval_place (program_of p) (place_of c.args.place.now) (state_of c.args.run.now.state)) c.eval_place.result c.in_ok-to.to c.eval_place.ensures c.in_ok-to.ensures in
    rw (q.1, q.2) (assign_stops p (place_of c.args.place.now) (lvalue_of c.in_ok-to.to) (expr_of c.args.e.now) c.args.run.now is c.value_step.new.run c.in_err-v.field-0.0 c.in_err-v.ensures)

pub returns : goal.returns
returns c =
    let p = c.args.program.now in
    let is = found (Unit {0}) lvalue_of (eval_place (program_of p) (place_of c.args.place.now) (state_of c.args.run.now.state)) c.eval_place.result c.in_ok-to.to c.eval_place.ensures c.in_ok-to.ensures in
    assign_goes p (place_of c.args.place.now) (lvalue_of c.in_ok-to.to) (expr_of c.args.e.now) c.args.run.now is c.value_step.new.run c.assign.new.run c.in_ok-v.v c.assign.result c.in_ok-v.ensures c.assign.ensures
