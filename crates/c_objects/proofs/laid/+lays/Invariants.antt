use Rattle.std.proofs.Common.{◌≡◌, ◌++◌, ◌-◌, drop}
use Rattle.std.specs.Prelude.{map}
use Rattle.type_trees.specs.Layouts.{rows, lay, lay_row, size}
use Rattle.c_ast.specs.Scalars.{metric_of}
use Rattle.c_objects.specs.Shapes.{field_of, row_from, tree_of}
use Rattle.c_objects.proofs.laid.+lays.Given as goal

abbrev pub invariant-lay_elements-loop : goal.invariant-lay_elements-loop
invariant-lay_elements-loop l =
    l.out ++ rows (l.n - l.counter) (lay (metric_of l.t) (tree_of l.element)) (size (metric_of l.t) (tree_of l.element)) l.next
    ≡ l.initial.out ++ rows l.n (lay (metric_of l.t) (tree_of l.element)) (size (metric_of l.t) (tree_of l.element)) l.at

abbrev pub invariant-lay_fields-loop-field : goal.invariant-lay_fields-loop-field
invariant-lay_fields-loop-field l =
    l.out ++ lay_row (metric_of l.t) (row_from (map field_of (drop l.field-index l.fields))) l.at l.end ≡ l.initial.out ++ lay_row (metric_of l.t) (row_from (map field_of l.fields)) l.at 0
