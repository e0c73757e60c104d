use Rattle.std.proofs.Common.{◌≡◌, ◌++◌, ◌-◌, map, drop}
use Rattle.type_trees.specs.Values.{cells_row}
use Rattle.c_memory.specs.Initializers.{zeros, zeros_row, copies_of}
use Rattle.c_meaning.specs.Memory.{nought}
use Rattle.c_objects.specs.Shapes.{tree_of, field_of, row_from}
use Rattle.c_statements.proofs.numbers.+zeros.Given as goal

abbrev pub invariant-add_zero_elements-loop : goal.invariant-add_zero_elements-loop
invariant-add_zero_elements-loop l = l.out ++ cells_row (copies_of (l.many - l.counter) (zeros nought (tree_of l.element))) ≡ l.initial.out ++ cells_row (copies_of l.many (zeros nought (tree_of l.element)))

abbrev pub invariant-add_zero_members-loop-field : goal.invariant-add_zero_members-loop-field
invariant-add_zero_members-loop-field l =
    l.out ++ cells_row (zeros_row nought (row_from (map field_of (drop l.field-index l.field-items)))) ≡ l.initial.out ++ cells_row (zeros_row nought (row_from (map field_of l.fields)))
