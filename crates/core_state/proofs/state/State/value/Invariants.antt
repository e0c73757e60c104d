use Rattle.std.proofs.Common.{◌≡◌, ◌==◌, map, take}
use Rattle.std.specs.Prelude.{reverse}
use Rattle.std.specs.List.{find}
use Rattle.std.specs.Option.{option_map, option_copied}
use Rattle.core_state.specs.State.{value_of, name_of}
use Rattle.core_state.proofs.state.State.value.Given as goal

abbrev pub invariant-loop-name : goal.invariant-loop-name
invariant-loop-name l = option_map value_of (option_copied l.found) ≡ option_map (λ x. x.1) (find (λ x. x.0 == l.number) (reverse (map name_of (take l.name-index l.name-items))))
