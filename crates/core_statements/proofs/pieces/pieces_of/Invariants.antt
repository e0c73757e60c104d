use Rattle.std.proofs.Common.{◌≡◌, ◌++◌, map, drop}
use Rattle.std.specs.Option.{option_map}
use Rattle.core_meaning.specs.Imports.{pieces_of}
use Rattle.core_state.specs.State.{value_of, state_of}
use Rattle.core_statements.proofs.pieces.pieces_of.Given as goal

abbrev pub invariant-loop-v : goal.invariant-loop-v
invariant-loop-v l = option_map (λ ps. l.pieces ++ ps) (pieces_of (state_of l.state).areas (map value_of (drop l.v-index l.args))) ≡ pieces_of (state_of l.state).areas (map value_of l.args)
