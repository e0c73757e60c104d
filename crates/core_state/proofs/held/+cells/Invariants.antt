use Rattle.std.proofs.Common.{◌≡◌, ◌++◌, take, map}
use Rattle.type_trees.specs.Values.{cells_row}
use Rattle.core_state.specs.Types.{held_of, row_of}
use Rattle.core_state.proofs.held.+cells.Given as goal

abbrev pub invariant-add_all_cells-loop-part : goal.invariant-add_all_cells-loop-part
invariant-add_all_cells-loop-part l = l.numbers ≡ l.initial.numbers ++ cells_row (row_of (map held_of (take l.part-index l.part-items)))
