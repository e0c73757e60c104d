use Rattle.std.proofs.Common.{◌∙◌, ◌∷◌, ◌++◌, [], take, map, sym, ap, append_assoc}
use Rattle.std.proofs.lemmas.List.{map_more}
use Rattle.type_trees.specs.Values.{cells, cells_row}
use Rattle.core_state.specs.Types.{held_of, row_of}
use Rattle.core_state.proofs.Rows.{cells_more}
use Rattle.core_state.proofs.held.+cells.Goals as goal

pub add_all_cells-loop-part-preserved : goal.add_all_cells-loop-part-preserved
add_all_cells-loop-part-preserved t c =
    let xs = c.deref-part-items.result.now in
    let i = c.loop-part.part-index in
    let x = c.part-item.result in
    let before = map held_of (take i xs) in
    let more = map_more held_of xs i x c.loop-part-test.true ∙ ap (λ h. before ++ held_of h ∷ []) (sym c.part-item.is) in
    c.in_ok-add_cells.ensures ∙ ap (λ ns. ns ++ cells (held_of x)) c.loop-part.invariant ∙ append_assoc c.args.numbers.now (cells_row (row_of before)) (cells (held_of x))
    ∙ ap (λ ns. c.args.numbers.now ++ ns) (sym (cells_more before (held_of x))) ∙ ap (λ hs. c.args.numbers.now ++ cells_row (row_of hs)) (sym more)
