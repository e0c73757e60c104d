use Rattle.std.proofs.Common.{◌≡◌, take}
use Rattle.std.specs.Prelude.{map}
use Rattle.c_objects.specs.Shapes.{field_of, entry}
use Rattle.c_objects.proofs.types.member_fields.Given as goal

abbrev pub invariant-loop-m : goal.invariant-loop-m
invariant-loop-m l = map field_of l.fields ≡ map (entry (map field_of l.types)) (take l.m-index l.members)
