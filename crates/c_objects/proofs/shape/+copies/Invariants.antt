use Rattle.std.proofs.Common.{◌≡◌, take}
use Rattle.c_objects.proofs.shape.+copies.Given as goal

abbrev pub invariant-copied_fields-loop-field : goal.invariant-copied_fields-loop-field
invariant-copied_fields-loop-field l = l.items ≡ take l.field-index l.fields
