use Rattle.std.proofs.Common.{◌≡◌, ◌+◌}
use Rattle.type_trees.specs.Trees.{nodes_row}
use Rattle.core_state.proofs.Filled.{row_from}
use Rattle.core_statements.proofs.nodes.+nodes.Given as goal

abbrev pub invariant-nodes_of_all-loop-field : goal.invariant-nodes_of_all-loop-field
invariant-nodes_of_all-loop-field l = l.all + nodes_row (row_from l.field-index l.field-items) ≡ nodes_row (row_from 0 l.field-items)
