use Rattle.std.proofs.Common.{◌≡◌, ◌++◌, map, drop}
use Rattle.step_semantics.specs.Steps.{after, give}
use Rattle.core_tree.specs.Cores.{core_of}
use Rattle.core_tree.specs.View.{expr_of}
use Rattle.core_meaning.specs.Expressions.{eval_all}
use Rattle.run_world.specs.Comes.{world_of}
use Rattle.core_state.specs.State.{value_of, state_of}
use Rattle.core_expressions.proofs.evaluation.eval_all.Given as goal

abbrev pub invariant-loop-e : goal.invariant-loop-e
invariant-loop-e l =
    after (eval_all (core_of l.program) (map expr_of (drop l.e-index l.es)) l.world.steps (world_of l.world) (state_of l.state)) (λ vs. give (map value_of l.values ++ vs))
    ≡ eval_all (core_of l.program) (map expr_of l.es) l.initial.world.steps (world_of l.initial.world) (state_of l.state)
