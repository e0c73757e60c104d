use Rattle.std.proofs.Common.{◌≡◌, take, map}
use Rattle.area_types.specs.Trees as trees
use Rattle.area_types.specs.View.{field_of}
use Rattle.core_state.specs.Types.{written_of}
use Rattle.core_state.proofs.written.fields_of.Given as goal

abbrev pub invariant-loop-field : goal.invariant-loop-field
invariant-loop-field l = map written_of l.types ≡ map (λ f. trees.tree_of (map written_of l.structs) f.area) (map field_of (take l.field-index l.fields))
