use Rattle.std.proofs.Common.{◌≡◌, take, map}
use Rattle.area_types.specs.Trees as trees
use Rattle.area_types.specs.View.{struct_of}
use Rattle.core_state.specs.Types.{written_of}
use Rattle.core_state.proofs.written.trees_of.Given as goal

abbrev pub invariant-loop-found : goal.invariant-loop-found
invariant-loop-found l = map written_of l.types ≡ trees.trees_of (map struct_of (take l.found-index l.structs))
