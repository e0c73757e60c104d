use Rattle.std.proofs.Common.{◌≡◌, [], drop}
use Rattle.std.specs.Prelude.{map}
use Rattle.c_ast.specs.Structs.{table}
use Rattle.c_objects.specs.Shapes.{field_of}
use Rattle.c_objects.proofs.types.make_types.Given as goal

abbrev pub invariant-loop-s : goal.invariant-loop-s
invariant-loop-s l = table (map field_of l.types) (drop l.s-index l.structs) ≡ table [] l.structs
