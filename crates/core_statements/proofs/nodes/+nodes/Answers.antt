use Rattle.std.proofs.Common.{◌≡◌, ◌+◌, ap, arith}
use Rattle.type_trees.specs.Trees.{nodes, nodes_row}
use Rattle.core_state.specs.Types.{written_of}
use Rattle.core_state.proofs.Filled.{row_from, field_here}
use Rattle.core_statements.proofs.nodes.+nodes.Goals as goal

pub nodes_of_all-loop-field-preserved : goal.nodes_of_all-loop-field-preserved
nodes_of_all-loop-field-preserved t c =
    let xs = c.deref-field-items.result.now in
    let i = c.loop-field.field-index in
    let x = c.field-item.result in
    let e : nodes_row (row_from i xs) ≡ nodes (written_of x) + nodes_row (row_from (i + 1) xs) = ap nodes_row (field_here xs i x c.loop-field-test.true c.field-item.is) in
    omega (arith, c.in_ok-all.ensures, c.in_ok-more.ensures, e, c.loop-field.invariant)
