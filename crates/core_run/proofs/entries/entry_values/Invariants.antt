use Rattle.std.proofs.Common.{◌≡◌, map, take}
use Rattle.core_meaning.specs.Values.{Num}
use Rattle.core_state.specs.State.{value_of}
use Rattle.core_run.proofs.entries.entry_values.Given as goal

abbrev pub invariant-loop-v : goal.invariant-loop-v
invariant-loop-v l = map value_of l.values ≡ map Num (take l.v-index l.numbers)
