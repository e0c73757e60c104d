use Rattle.std.proofs.Common.{◌≡◌, ◌-◌, drop}
use Rattle.std.specs.Prelude.{map}
use Rattle.type_trees.specs.Layouts.{size}
use Rattle.c_memory.specs.Standing.{any_of, stands, stands_row}
use Rattle.c_ast.specs.Scalars.{metric_of}
use Rattle.c_meaning.specs.Memory.{is_base}
use Rattle.c_objects.specs.Shapes.{field_of, row_from, tree_of, base_of}
use Rattle.c_objects.proofs.standing.+stands.Given as goal

abbrev pub invariant-stands_in_elements-loop : goal.invariant-stands_in_elements-loop
invariant-stands_in_elements-loop l =
    any_of (l.n - l.counter) (stands (metric_of l.t) (is_base (base_of l.wanted)) l.o (tree_of l.element)) (size (metric_of l.t) (tree_of l.element)) l.next
    ≡ any_of l.n (stands (metric_of l.t) (is_base (base_of l.wanted)) l.o (tree_of l.element)) (size (metric_of l.t) (tree_of l.element)) l.at

abbrev pub invariant-stands_in_fields-loop-field : goal.invariant-stands_in_fields-loop-field
invariant-stands_in_fields-loop-field l =
    stands_row (metric_of l.t) (is_base (base_of l.wanted)) l.o (row_from (map field_of (drop l.field-index l.fields))) l.at l.end ≡ stands_row (metric_of l.t) (is_base (base_of l.wanted)) l.o (row_from (map field_of l.fields)) l.at 0
