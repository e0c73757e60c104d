use Rattle.std.proofs.Common.{List, ◌+◌, ◌*◌, ◌++◌, ℕ, length, take, map, ap, sym, ◌∙◌, refl, arith, append-nil}
use Rattle.std.proofs.lemmas.Option.{slice_get_read, slice_get_past}
use Rattle.std.proofs.lemmas.Result.{on_ok_weaker}
use Rattle.type_trees.specs.Trees.{count, levels, levels_row}
use Rattle.area_types.specs.Tables.{tree_over}
use Rattle.area_types.specs.Trees.{fields_of, trees_of}
use Rattle.area_types.specs.View.{area_of, field_of, struct_of}
use Rattle.area_types.proofs.Written.{found_tree, level_within}
use Rattle.area_types.specs.declared.FieldDef.{FieldDef}
use Rattle.typing_rules.specs.Initializers.{zeros}
use Rattle.area_values.specs.Values.{count_fields}
use Rattle.area_values.proofs.ZeroCells.{zeros_more, zeros_done, struct_counted, none_counted}
use Rattle.area_values.proofs.Rests.{zeros_of_more}
use Rattle.area_values.proofs.zeros.+zeros.Goals as goal

pub add_zeros_of_elements-loop-preserved : goal.add_zeros_of_elements-loop-preserved
add_zeros_of_elements-loop-preserved t c =
    zeros_more c.args.length c.loop.counter (count (tree_over c.args.structs.now (area_of c.args.element.now))) c.loop.values c.add_zeros.new.values _ c.loop-test.true c.in_ok-add_zeros.ensures c.loop.invariant

pub add_zeros_of_fields-add_zeros-requires : goal.add_zeros_of_fields-add_zeros-requires
add_zeros_of_fields-add_zeros-requires t c =
    (omega (arith, c.decreases, level_within 0 (trees_of (map struct_of c.args.earlier.now)) c.args.fields.now c.loop-field.field-index c.field-item.result c.loop-field-test.true c.field-item.is), tt)

pub add_zeros_of_fields-loop-field-preserved : goal.add_zeros_of_fields-loop-field-preserved
add_zeros_of_fields-loop-field-preserved t c =
    zeros_of_more (trees_of (map struct_of c.args.earlier.now)) c.args.fields.now c.loop-field.field-index c.field-item.result c.loop-field.values c.add_zeros.new.values _ c.loop-field-test.true c.field-item.is
    c.in_ok-add_zeros.ensures c.loop-field.invariant

pub add_zeros_of_struct-add_zeros_of_fields-requires : goal.add_zeros_of_struct-add_zeros_of_fields-requires
add_zeros_of_struct-add_zeros_of_fields-requires t c =
    let e = ap levels (found_tree c.args.structs.now c.args.number c.in-Some.found.now (slice_get_read c.args.structs.now (length c.args.structs.now) c.args.number c.in-Some.found.now refl c.in-Some.ensures.lookup.3.0 c.in-Some.ensures.lookup.1)) in
    let f = ap (λ (fs : List FieldDef). levels_row (fields_of (trees_of (map struct_of (take c.args.number c.args.structs.now))) (map field_of fs))) c.as_slice.ensures in
    (omega (arith, c.decreases, e, f), tt)

pub add_zeros_of_elements-returns : goal.add_zeros_of_elements-returns
add_zeros_of_elements-returns t c =
    zeros_done c.args.length c.loop.counter (count (tree_over c.args.structs.now (area_of c.args.element.now))) c.loop.values _ (omega (arith, c.loop-test.false)) c.loop.invariant

pub add_zeros_of_struct-returns-in-Some : goal.add_zeros_of_struct-returns-in-Some
add_zeros_of_struct-returns-in-Some t c =
    let found = slice_get_read c.args.structs.now (length c.args.structs.now) c.args.number c.in-Some.found.now refl c.in-Some.ensures.lookup.3.0 c.in-Some.ensures.lookup.1 in
    on_ok_weaker c.add_zeros_of_fields.result
    (λ is. is ∙ ap (λ (fs : List FieldDef). c.args.values.now ++ zeros (count_fields (trees_of (map struct_of (take c.args.number c.args.structs.now))) (map field_of fs))) c.as_slice.ensures
    ∙ ap (λ (n : ℕ). c.args.values.now ++ zeros n) (sym (struct_counted c.args.structs.now c.args.number c.in-Some.found.now found)))
    c.add_zeros_of_fields.ensures

pub add_zeros_of_struct-returns-in-None : goal.add_zeros_of_struct-returns-in-None
add_zeros_of_struct-returns-in-None t c =
    sym (ap (λ (n : ℕ). c.args.values.now ++ zeros n) (none_counted c.args.structs.now c.args.number (slice_get_past c.args.structs.now c.args.number c.in-None.ensures.lookup.3)) ∙ append-nil c.args.values.now)
