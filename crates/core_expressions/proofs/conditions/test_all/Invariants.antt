use Rattle.std.proofs.Common.{◌≡◌, map, drop}
use Rattle.std.specs.Prelude.{not, if◌then◌else◌}
use Rattle.std.specs.List.{filter}
use Rattle.std.specs.Option.{option_map}
use Rattle.core_tree.specs.Cores.{core_of}
use Rattle.core_tree.specs.View.{contract_of}
use Rattle.core_meaning.specs.Conditions.{tested_all}
use Rattle.run_world.specs.Comes.{world_of}
use Rattle.core_state.specs.State.{value_of, state_of}
use Rattle.core_expressions.proofs.conditions.test_all.Given as goal

abbrev pub invariant-loop-contract : goal.invariant-loop-contract
invariant-loop-contract l =
    tested_all (core_of l.program) (option_map value_of l.outcome) (filter (λ c. if l.before then c.before else not c.before) (map contract_of (drop l.contract-index l.contracts))) l.world.steps (world_of l.world) (state_of l.state)
    ≡ tested_all (core_of l.program) (option_map value_of l.outcome) (filter (λ c. if l.before then c.before else not c.before) (map contract_of l.contracts)) l.initial.world.steps (world_of l.initial.world) (state_of l.state)
