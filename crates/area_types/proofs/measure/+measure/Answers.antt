use Rattle.std.proofs.Common.{◌≡◌, ◌∷◌, [], ◌++◌, length, take, map, ap, sym, ◌∙◌, refl, arith}
use Rattle.std.proofs.lemmas.List.{map_more, take_all}
use Rattle.std.proofs.lemmas.Option.{slice_get_read, slice_get_past}
use Rattle.type_trees.specs.Trees.{Struct, levels, levels_row}
use Rattle.type_trees.proofs.Layouts.{align_row_some}
use Rattle.area_types.specs.Extents.{extent_of, row_extent, times, with_field, enclosed}
use Rattle.area_types.specs.Syntax as syntax
use Rattle.area_types.specs.Sizes.{metric}
use Rattle.area_types.specs.Trees.{tree_of, trees_of, fields_of}
use Rattle.area_types.specs.View.{area_of, field_of, struct_of}
use Rattle.area_types.proofs.View.{array_is}
use Rattle.area_types.proofs.Written.{found_tree, missing_tree, level_within}
use Rattle.area_types.proofs.Extents.{many_extent, row_after, row_enclosed}
use Rattle.area_types.proofs.measure.+measure.Goals as goal

pub extent-returns-in-Array-clause-value : goal.extent-returns-in-Array-clause-value
extent-returns-in-Array-clause-value t c =
    let whole : area_of c.args.area.now ≡ syntax.Array c.in-Array.length (area_of c.deref-in-Array.result.now) =
    ap area_of c.in-Array.is ∙ array_is c.in-Array.length c.in-Array.element ∙ ap (λ a. syntax.Array c.in-Array.length (area_of a)) (sym c.deref-in-Array.ensures) in
    c.times.ensures ∙ ap (λ e. times e c.in-Array.length) c.extent.ensures.value
    ∙ many_extent c.args.words.now c.in-Array.length (tree_of (trees_of (map struct_of c.args.structs.now)) (area_of c.deref-in-Array.result.now))
    ∙ ap (λ a. extent_of c.args.words.now (tree_of (trees_of (map struct_of c.args.structs.now)) a)) (sym whole)

pub fields_extent-loop-field-init : goal.fields_extent-loop-field-init
fields_extent-loop-field-init t c = sym (c.empty_row-row.ensures c.args.words.now)

pub fields_extent-extent-requires : goal.fields_extent-extent-requires
fields_extent-extent-requires t c =
    (omega (arith, c.decreases, level_within 0 (trees_of (map struct_of c.args.earlier.now)) c.args.fields.now c.loop-field.field-index c.field-item.result c.loop-field-test.true c.field-item.is), tt)

pub fields_extent-loop-field-preserved : goal.fields_extent-loop-field-preserved
fields_extent-loop-field-preserved t c =
    ap (λ fs. row_extent c.args.words.now (fields_of (trees_of (map struct_of c.args.earlier.now)) fs))
    (map_more field_of c.args.fields.now c.loop-field.field-index c.field-item.result c.loop-field-test.true
    ∙ ap (λ f. map field_of (take c.loop-field.field-index c.args.fields.now) ++ field_of f ∷ []) (sym c.field-item.is))
    ∙ sym (row_after c.args.words.now (trees_of (map struct_of c.args.earlier.now)) (field_of c.field-item.result) (map field_of (take c.loop-field.field-index c.args.fields.now)))
    ∙ ap (λ e. with_field e (extent_of c.args.words.now (tree_of (trees_of (map struct_of c.args.earlier.now)) (area_of c.field-item.result.area)))) c.loop-field.invariant
    ∙ ap (with_field c.loop-field.row) (sym c.extent.ensures.value)
    ∙ sym c.with_field-row.ensures

pub fields_extent-enclosed-requires : goal.fields_extent-enclosed-requires
fields_extent-enclosed-requires t c =
    omega (arith, ap (λ e. e.alignment) c.loop-field.invariant, align_row_some (metric c.args.words.now) (fields_of (trees_of (map struct_of c.args.earlier.now)) (map field_of (take c.loop-field.field-index c.args.fields.now))))

pub fields_extent-returns-clause-value : goal.fields_extent-returns-clause-value
fields_extent-returns-clause-value t c =
    let trees = trees_of (map struct_of c.args.earlier.now) in
    c.enclosed.ensures ∙ ap enclosed (sym c.loop-field.invariant)
    ∙ row_enclosed c.args.words.now 0 (fields_of trees (map field_of (take c.loop-field.field-index c.args.fields.now)))
    ∙ ap (λ fs. extent_of c.args.words.now (Struct 0 (fields_of trees (map field_of fs)))) (take_all c.loop-field.field-index c.args.fields.now c.loop-field-test.false)

pub fields_extent-returns-clause-some : goal.fields_extent-returns-clause-some
fields_extent-returns-clause-some t c =
    omega (arith, ap (λ e. e.alignment) c.enclosed.ensures, ap (λ e. e.alignment) c.loop-field.invariant, align_row_some (metric c.args.words.now) (fields_of (trees_of (map struct_of c.args.earlier.now)) (map field_of (take c.loop-field.field-index c.args.fields.now))))

pub struct_extent-fields_extent-requires : goal.struct_extent-fields_extent-requires
struct_extent-fields_extent-requires t c =
    let e = ap levels (found_tree c.args.structs.now c.args.number c.in-Some.found.now (slice_get_read c.args.structs.now (length c.args.structs.now) c.args.number c.in-Some.found.now refl c.in-Some.ensures.lookup.3.0 c.in-Some.ensures.lookup.1)) in
    let f = ap (λ fs. levels_row (fields_of (trees_of (map struct_of (take c.args.number c.args.structs.now))) (map field_of fs))) c.as_slice.ensures in
    (omega (arith, c.decreases, e, f), tt)

pub struct_extent-fields_extent-requires-in-None : goal.struct_extent-fields_extent-requires-in-None
struct_extent-fields_extent-requires-in-None t c =
    let e = ap levels (missing_tree c.args.structs.now c.args.number (slice_get_past c.args.structs.now c.args.number c.in-None.ensures.lookup.3)) in
    (omega (arith, c.decreases, e), tt)

pub struct_extent-returns-in-Some-clause-value : goal.struct_extent-returns-in-Some-clause-value
struct_extent-returns-in-Some-clause-value t c =
    c.fields_extent.ensures.value
    ∙ ap (λ fs. extent_of c.args.words.now (Struct c.args.number (fields_of (trees_of (map struct_of (take c.args.number c.args.structs.now))) (map field_of fs)))) c.as_slice.ensures
    ∙ ap (extent_of c.args.words.now) (sym (found_tree c.args.structs.now c.args.number c.in-Some.found.now (slice_get_read c.args.structs.now (length c.args.structs.now) c.args.number c.in-Some.found.now refl c.in-Some.ensures.lookup.3.0 c.in-Some.ensures.lookup.1)))

pub struct_extent-returns-in-None-clause-value : goal.struct_extent-returns-in-None-clause-value
struct_extent-returns-in-None-clause-value t c =
    c.fields_extent-in-None.ensures.value ∙ ap (extent_of c.args.words.now) (sym (missing_tree c.args.structs.now c.args.number (slice_get_past c.args.structs.now c.args.number c.in-None.ensures.lookup.3)))
