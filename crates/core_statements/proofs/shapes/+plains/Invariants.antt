use Rattle.std.proofs.Common.{◌≡◌, ◌++◌, ◌-◌, map}
use Rattle.type_trees.specs.Trees.{scalars, scalars_row, repeated}
use Rattle.core_tree.specs.Exports.{plain_of}
use Rattle.core_state.specs.Types.{written_of}
use Rattle.core_state.proofs.Filled.{row_from}
use Rattle.core_statements.proofs.shapes.+plains.Given as goal

abbrev pub invariant-add_elements-loop : goal.invariant-add_elements-loop
invariant-add_elements-loop l = l.plains ++ map plain_of (repeated (l.length - l.counter) (scalars (written_of l.element))) ≡ l.initial.plains ++ map plain_of (repeated l.length (scalars (written_of l.element)))

abbrev pub invariant-add_fields-loop-field : goal.invariant-add_fields-loop-field
invariant-add_fields-loop-field l = l.plains ++ map plain_of (scalars_row (row_from l.field-index l.field-items)) ≡ l.initial.plains ++ map plain_of (scalars_row (row_from 0 l.field-items))
