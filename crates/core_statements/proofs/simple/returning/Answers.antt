use Rattle.std.proofs.lemmas.Result.{err_from_is_err_and}
use Rattle.std.proofs.Common.{Err}
use Rattle.std.specs.Option.{option_map}
use Rattle.step_semantics.specs.Control.{Returned}
use Rattle.step_semantics.specs.Steps.{give, bind}
use Rattle.core_tree.specs.Cores.{core_of}
use Rattle.core_tree.specs.View.{proc_of}
use Rattle.core_meaning.specs.Conditions.{ensured}
use Rattle.core_meaning.specs.State.{seen}
use Rattle.core_state.specs.State.{value_of, state_of}
use Rattle.run_world.specs.Comes.{itself, world_of}
use Rattle.run_world.proofs.Comes.{stops, ticked}
use Rattle.core_statements.specs.Parts.{control_of}
use Rattle.core_statements.proofs.simple.returning.Goals as goal

pub returns-in_err-ensured : goal.returns-in_err-ensured
returns-in_err-ensured c =
    let q = err_from_is_err_and c.from_residual-in_err-ensured.result c.from_residual-in_err-ensured.ensures.1 in
    let core = core_of c.args.program.now in
    let p = proc_of c.args.proc.now in
    let run = c.args.run.now in
    let s = state_of run.state in
    let w = c.tick.new.self in
    let outcome = option_map value_of c.args.value in
    let why = c.in_err-ensured.field-0.0 in
    let new = c.ensured.new.run in
    rw (q.1, q.2) (ticked (seen core) control_of (bind (ensured core p outcome) (λ t. give (Returned outcome))) c.in_ok-tick.field-0 run.world w s (Err why) new.world (state_of new.state) c.in_ok-tick.ensures
    (stops (seen core) (itself {A = Unit {0}}) control_of (ensured core p outcome w.steps (world_of w) s) (λ t. give (Returned outcome)) why new.world (state_of new.state) c.in_err-ensured.ensures))
