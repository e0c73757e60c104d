use Rattle.std.proofs.Common.{◌≡◌, length, map, drop}
use Rattle.step_semantics.specs.Steps.{after, give}
use Rattle.core_tree.specs.Cores.{core_of}
use Rattle.core_tree.specs.View.{inits_of}
use Rattle.core_meaning.specs.Initializers.{init_values}
use Rattle.core_state.specs.State.{state_of}
use Rattle.core_state.specs.Types.{held_of}
use Rattle.run_world.specs.Comes.{world_of}
use Rattle.core_statements.specs.Initial.{types_of}
use Rattle.core_statements.proofs.Inits.{Left}
use Rattle.core_statements.proofs.initial.+initial.Given as goal

abbrev pub invariant-init_values-loop-init : goal.invariant-init_values-loop-init
invariant-init_values-loop-init l = record {
  rest : Left (core_of l.program) (map held_of l.parts) (inits_of (drop l.init-index l.init-items)) (drop (length l.parts) (types_of l.types)) l.world.steps (world_of l.world) (state_of l.state)
      ≡ after (init_values (core_of l.program) (inits_of l.init-items) (types_of l.types) l.initial.world.steps (world_of l.initial.world) (state_of l.state)) give;
  length : length l.parts ≡ l.init-index;
}
