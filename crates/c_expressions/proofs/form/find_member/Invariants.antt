use Rattle.std.proofs.Common.{◌≡◌, [], map, drop}
use Rattle.type_trees.specs.Layouts.{offset_row}
use Rattle.c_ast.specs.Scalars.{metric_of}
use Rattle.c_ast.specs.StaticTypes.{member_tree}
use Rattle.c_ast.specs.Structs.{index_of}
use Rattle.c_objects.specs.Shapes.{row_from, field_of}
use Rattle.c_expressions.proofs.form.find_member.Given as goal

abbrev pub invariant-loop-field : goal.invariant-loop-field
invariant-loop-field l = record {
  member : member_tree (row_from (map field_of (drop l.field-index l.fields))) l.name ≡ member_tree (row_from (map field_of l.fields)) l.name;
  offset : offset_row (metric_of l.t) (row_from (map field_of (drop l.field-index l.fields))) (index_of (row_from (map field_of (drop l.field-index l.fields))) l.name) [] l.end ≡ offset_row (metric_of l.t) (row_from (map field_of l.fields)) (index_of (row_from (map field_of l.fields)) l.name) [] 0;
}
