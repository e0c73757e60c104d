use Rattle.std.proofs.Common.{◌≡◌, drop}
use Rattle.std.specs.Prelude.{map}
use Rattle.c_ast.specs.Names.{named}
use Rattle.c_objects.specs.Shapes.{field_of}
use Rattle.c_objects.proofs.types.find_type.Given as goal

abbrev pub invariant-loop-field : goal.invariant-loop-field
invariant-loop-field l = named (map field_of (drop l.field-index l.types)) l.w ≡ named (map field_of l.types) l.w
