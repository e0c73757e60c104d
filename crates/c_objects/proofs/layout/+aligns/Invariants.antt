use Rattle.std.proofs.Common.{◌≡◌, ◌≤◌, drop, max}
use Rattle.std.specs.Prelude.{map}
use Rattle.type_trees.specs.Layouts.{align_row}
use Rattle.c_ast.specs.Scalars.{metric_of}
use Rattle.c_objects.specs.Shapes.{row_from, field_of}
use Rattle.c_objects.proofs.layout.+aligns.Given as goal

abbrev pub invariant-fields_align-loop-field : goal.invariant-fields_align-loop-field
invariant-fields_align-loop-field l = (1 ≤ l.most) × (max l.most (align_row (metric_of l.t) (row_from (map field_of (drop l.field-index l.fields)))) ≡ align_row (metric_of l.t) (row_from (map field_of l.fields)))
