use Rattle.std.proofs.Common.{◌≡◌, ◌∙◌, ◌++◌, ◌-◌, ◌+◌, suc, map, sym, ap, arith, append_assoc}
use Rattle.std.proofs.lemmas.List.{map-append}
use Rattle.type_trees.specs.Trees.{scalars, scalars_row, repeated}
use Rattle.core_tree.specs.Exports.{plain_of}
use Rattle.core_state.specs.Types.{written_of}
use Rattle.core_state.proofs.Filled.{row_from, field_here}
use Rattle.core_statements.proofs.shapes.+plains.Goals as goal

pub add_elements-loop-preserved : goal.add_elements-loop-preserved
add_elements-loop-preserved t c =
    let xs = scalars (written_of c.args.element.now) in
    let many = c.args.length in
    let k = c.loop.counter in
    let less = many - (k + 1) in
    let is : many - k ≡ suc less = omega (arith, c.loop-test.true) in
    let plains = c.loop.plains in
    ap (λ ps. ps ++ map plain_of (repeated less xs)) c.in_ok-add_plains.ensures ∙ append_assoc plains (map plain_of xs) (map plain_of (repeated less xs))
    ∙ ap (λ ps. plains ++ ps) (sym (map-append plain_of xs (repeated less xs))) ∙ ap (λ n. plains ++ map plain_of (repeated n xs)) (sym is) ∙ c.loop.invariant

pub add_fields-loop-field-preserved : goal.add_fields-loop-field-preserved
add_fields-loop-field-preserved t c =
    let xs = c.deref-field-items.result.now in
    let i = c.loop-field.field-index in
    let x = c.field-item.result in
    let next = row_from (i + 1) xs in
    let is = field_here xs i x c.loop-field-test.true c.field-item.is in
    let plains = c.loop-field.plains in
    ap (λ ps. ps ++ map plain_of (scalars_row next)) c.in_ok-add_plains.ensures ∙ append_assoc plains (map plain_of (scalars (written_of x))) (map plain_of (scalars_row next))
    ∙ ap (λ ps. plains ++ ps) (sym (map-append plain_of (scalars (written_of x)) (scalars_row next))) ∙ ap (λ r. plains ++ map plain_of (scalars_row r)) (sym is) ∙ c.loop-field.invariant
