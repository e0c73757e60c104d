use Rattle.std.proofs.Common.{◌≡◌, map, drop}
use Rattle.std.specs.List.{list_all}
use Rattle.area_types.specs.Tables.{is_field}
use Rattle.area_types.specs.View.{field_of}
use Rattle.area_types.proofs.table.are_fields.Given as goal

abbrev pub invariant-loop-field : goal.invariant-loop-field
invariant-loop-field l = list_all (is_field l.structs l.words) (map field_of (drop l.field-index l.fields)) ≡ list_all (is_field l.structs l.words) (map field_of l.fields)
