use Rattle.std.proofs.Common.{◌≡◌, map, drop}
use Rattle.area_types.specs.View.{type_of}
use Rattle.core_tree.specs.View.{link_of, step_of}
use Rattle.run_world.specs.Comes.{world_of}
use Rattle.core_state.specs.State.{value_of}
use Rattle.core_expressions.specs.Chains.{chain_from, steps_from}
use Rattle.core_expressions.specs.Scopes.{core_in, state_in, outcome_in}
use Rattle.core_expressions.proofs.evaluation.+values.Given as goal

abbrev pub invariant-chain-loop-link : goal.invariant-chain-loop-link
invariant-chain-loop-link l =
    chain_from (core_in l.scope) (outcome_in l.scope) (value_of l.x) (type_of l.before) (map link_of (drop l.link-index l.link-items)) l.world.steps (world_of l.world) (state_in l.scope)
    ≡ chain_from (core_in l.scope) (outcome_in l.scope) (value_of l.fn.left) (type_of l.ty) (map link_of l.links) l.initial.world.steps (world_of l.initial.world) (state_in l.scope)

abbrev pub invariant-postfix-loop-step : goal.invariant-postfix-loop-step
invariant-postfix-loop-step l =
    steps_from (core_in l.scope) (outcome_in l.scope) (value_of l.x) (type_of l.before) (map step_of (drop l.step-index l.step-items)) l.world.steps (world_of l.world) (state_in l.scope)
    ≡ steps_from (core_in l.scope) (outcome_in l.scope) (value_of l.fn.whole) (type_of l.ty) (map step_of l.steps) l.initial.world.steps (world_of l.initial.world) (state_in l.scope)
