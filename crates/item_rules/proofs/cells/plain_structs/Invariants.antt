-- What is known of the structs so far.
use Rattle.std.proofs.Common.{◌≡◌, take, map}
use Rattle.area_types.specs.View.{struct_of}
use Rattle.item_rules.specs.Cells.{plain_structs}
use Rattle.item_rules.proofs.cells.plain_structs.Given as goal

abbrev pub invariant-loop-found : goal.invariant-loop-found
invariant-loop-found l = l.known ≡ plain_structs (map struct_of (take l.found-index l.structs))
