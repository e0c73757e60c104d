use Rattle.std.proofs.lemmas.Result.{err_from_is_err_and}
use Rattle.std.proofs.Common.{List, ℤ, subst}
use Rattle.c_ast.specs.declared.Target.{Target}
use Rattle.c_meaning.specs.Memory as memory
use Rattle.c_objects.specs.Store.{objects_of}
use Rattle.c_expressions.specs.State.{state_of}
use Rattle.run_world.specs.Comes.{world_of}
use Rattle.c_statements.specs.Cells.{written}
use Rattle.c_statements.specs.Parts.{called_of, Alters}
use Rattle.c_statements.specs.Replies.{reply_called}
use Rattle.c_statements.proofs.ConvertedArguments.{found}
use Rattle.c_statements.proofs.WrittenAll.{reply_stops, reply_goes}
use Rattle.c_statements.proofs.externs.replied.Goals as goal

pub returns-in_err-given : goal.returns-in_err-given
returns-in_err-given c = λ args are.
    let q = err_from_is_err_and c.from_residual-in_err-given.result c.from_residual-in_err-given.ensures.1 in
    let p = c.args.program.now in
    let x = c.args.x.now in
    let cs = c.args.cells.now in
    let vs = c.args.reply.now in
    let run = c.args.run.now in
    let is = found (Unit {0}) called_of (reply_called x.result vs) c.reply_called.result c.in_ok-called.called c.reply_called.ensures c.in_ok-called.ensures in
    let h = subst (λ (rest : List ℤ). Alters (memory.answered (written p.target cs rest (objects_of run.state.objects))) (state_of run.state) (state_of c.write_cells.new.state) c.write_cells.result) c.reply_rest-rest.ensures
    (subst (λ (t : Target). Alters (memory.answered (written t cs c.reply_rest-rest.result.now (objects_of run.state.objects))) (state_of run.state) (state_of c.write_cells.new.state) c.write_cells.result) c.target.ensures c.write_cells.ensures) in
    rw (q.1, q.2) (reply_stops p x args cs are vs c.in_ok-called.called is (state_of run.state) (state_of c.write_cells.new.state) c.write_cells.result c.in_err-given.field-0.0 run.world.steps run.world h c.in_err-given.ensures)

pub returns : goal.returns
returns c = λ args are.
    let p = c.args.program.now in
    let x = c.args.x.now in
    let cs = c.args.cells.now in
    let vs = c.args.reply.now in
    let run = c.args.run.now in
    let is = found (Unit {0}) called_of (reply_called x.result vs) c.reply_called.result c.in_ok-called.called c.reply_called.ensures c.in_ok-called.ensures in
    let h = subst (λ (rest : List ℤ). Alters (memory.answered (written p.target cs rest (objects_of run.state.objects))) (state_of run.state) (state_of c.write_cells.new.state) c.write_cells.result) c.reply_rest-rest.ensures
    (subst (λ (t : Target). Alters (memory.answered (written t cs c.reply_rest-rest.result.now (objects_of run.state.objects))) (state_of run.state) (state_of c.write_cells.new.state) c.write_cells.result) c.target.ensures c.write_cells.ensures) in
    reply_goes p x args cs are vs c.in_ok-called.called is (state_of run.state) (state_of c.write_cells.new.state) c.write_cells.result c.in_ok-given.field-0 run.world.steps (world_of run.world) h c.in_ok-given.ensures
