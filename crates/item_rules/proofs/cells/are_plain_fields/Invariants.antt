-- Only a later field can have other cells.
use Rattle.std.proofs.Common.{◌≡◌, drop, map}
use Rattle.area_types.specs.View.{field_of}
use Rattle.item_rules.specs.Cells.{plain_fields}
use Rattle.item_rules.proofs.cells.are_plain_fields.Given as goal

abbrev pub invariant-loop-field : goal.invariant-loop-field
invariant-loop-field l = plain_fields l.known (map field_of (drop l.field-index l.fields)) ≡ plain_fields l.known (map field_of l.fields)
