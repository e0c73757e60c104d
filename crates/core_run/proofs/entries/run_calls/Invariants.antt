use Rattle.std.proofs.Common.{◌≡◌, drop}
use Rattle.step_semantics.specs.Runs.{entry_calls}
use Rattle.core_tree.specs.Cores.{core_of}
use Rattle.core_meaning.specs.Run.{entry}
use Rattle.core_state.specs.State.{state_of}
use Rattle.run_world.specs.Comes.{world_of}
use Rattle.core_run.proofs.entries.run_calls.Given as goal

abbrev pub invariant-loop-call : goal.invariant-loop-call
invariant-loop-call l =
    entry_calls (entry (core_of l.program)) (drop l.call-index l.calls) l.run.world.steps (world_of l.run.world) (state_of l.run.state)
    ≡ entry_calls (entry (core_of l.program)) l.calls l.initial.run.world.steps (world_of l.initial.run.world) (state_of l.initial.run.state)
