use Rattle.std.proofs.Common.{◌≡◌, drop}
use Rattle.std.specs.Prelude.{map}
use Rattle.type_trees.specs.Layouts.{end_row}
use Rattle.c_ast.specs.Scalars.{metric_of}
use Rattle.c_objects.specs.Shapes.{row_from, field_of}
use Rattle.c_objects.proofs.layout.+sizes.Given as goal

abbrev pub invariant-fields_size-loop-field : goal.invariant-fields_size-loop-field
invariant-fields_size-loop-field l = end_row (metric_of l.t) (row_from (map field_of (drop l.field-index l.fields))) l.end ≡ end_row (metric_of l.t) (row_from (map field_of l.fields)) 0
