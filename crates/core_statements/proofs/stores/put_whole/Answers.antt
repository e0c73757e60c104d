use Rattle.std.proofs.lemmas.Result.{err_from_is_err_and}
use Rattle.std.proofs.Common.{Ok, ap, sym}
use Rattle.step_semantics.specs.Control.{Falls}
use Rattle.step_semantics.specs.Steps.{Finished, change}
use Rattle.core_tree.specs.Cores.{core_of}
use Rattle.core_meaning.specs.State.{seen, holding}
use Rattle.core_state.specs.State.{state_of}
use Rattle.core_state.specs.Types.{held_of}
use Rattle.run_world.specs.Comes.{world_of}
use Rattle.run_world.proofs.Comes.{ticks_taken, ticks_missing}
use Rattle.core_statements.specs.Parts.{control_of}
use Rattle.core_statements.specs.declared.parts.Control.TheVariants as control
use Rattle.core_statements.proofs.stores.put_whole.Goals as goal

pub returns-in_err-ticks : goal.returns-in_err-ticks
returns-in_err-ticks c =
    let q = err_from_is_err_and c.from_residual.result c.from_residual.ensures.1 in
    let run = c.args.run.now in
    rw (q.1, q.2) (ticks_missing (Unit {0}) (seen (core_of c.args.program.now)) control_of (change Falls (holding c.args.area c.args.path.now (held_of c.args.held))) c.args.count c.in_err-ticks.field-0.0 run.world c.ticks.new.self (state_of run.state) c.in_err-ticks.ensures)

pub returns : goal.returns
returns c =
    let run = c.args.run.now in
    let w = c.ticks.new.self in
    ticks_taken (seen (core_of c.args.program.now)) control_of (change Falls (holding c.args.area c.args.path.now (held_of c.args.held))) c.args.count c.in_ok-ticks.field-0 run.world w (state_of run.state) (Ok control.Falls) w (state_of c.put_at.new.self) c.in_ok-ticks.ensures
    (ap (λ s. Finished Falls (world_of w) s w.steps) (sym c.put_at.ensures.state))
