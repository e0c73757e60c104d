use Rattle.std.proofs.Common.{◌≡◌, ◌∷◌, [], ℕ, ◌*◌, length, map, take, Some, IfOk, ap, sym, ◌∙◌, refl, subst, arith}
use Rattle.std.specs.Option.{option_map}
use Rattle.std.proofs.lemmas.List.{take-map}
use Rattle.std.proofs.lemmas.Option.{slice_get_read, slice_get_past, slice_get-map}
use Rattle.area_types.specs.Extents.{capped, behind, capped_cell_at}
use Rattle.area_types.specs.Syntax as syntax
use Rattle.area_types.specs.Syntax.{Area}
use Rattle.type_trees.specs.Trees.{Struct, count, count_row}
use Rattle.area_types.specs.Trees.{tree_of, fields_of, trees_of}
use Rattle.area_types.specs.View.{area_of, field_of, struct_of, found_of}
use Rattle.area_types.proofs.View.{array_is}
use Rattle.area_types.proofs.Written.{found_tree, missing_tree}
use Rattle.area_types.proofs.Parts.{no_steps, area_written, many_part, fields_part, fields_past}
use Rattle.area_types.proofs.part.+parts.Goals as goal

pub part-returns-in_ok-copy-in-None : goal.part-returns-in_ok-copy-in-None
part-returns-in_ok-copy-in-None t c =
    let here : c.args.path.now ≡ [] = no_steps c.args.path.now c.in-None.ensures.cases in
    ap (λ (a : Area). let found : ℕ × Area = (0, a) in Some found)
    (ap area_of c.in_ok-copy-in-None.ensures ∙ sym (area_written (map struct_of c.args.structs.now) (area_of c.args.area.now)))
    ∙ ap (capped_cell_at (tree_of (trees_of (map struct_of c.args.structs.now)) (area_of c.args.area.now))) (sym here)

pub part_within-returns-in_ok-part-in-Array : goal.part_within-returns-in_ok-part-in-Array
part_within-returns-in_ok-part-in-Array t c =
    let a = tree_of (trees_of (map struct_of c.args.structs.now)) (area_of c.in-Array.element) in
    let whole : area_of c.args.area.now ≡ syntax.Array c.in-Array.length (area_of c.in-Array.element) = ap area_of c.in-Array.is ∙ array_is c.in-Array.length c.in-Array.element in
    let before : c.saturating_mul-before.result ≡ capped (c.args.step * capped (count a)) =
    c.saturating_mul-before.ensures ∙ ap (λ e. capped (c.args.step * e.cells)) c.extent.ensures.value
    ∙ ap (λ b. capped (c.args.step * capped (count (tree_of (trees_of (map struct_of c.args.structs.now)) (area_of b))))) c.deref.ensures in
    c.behind.ensures ∙ ap (λ n. behind n (option_map found_of c.in_ok-part-in-Array.field-0)) before
    ∙ ap (behind (capped (c.args.step * capped (count a)))) (c.in_ok-part-in-Array.ensures ∙ ap (λ b. capped_cell_at (tree_of (trees_of (map struct_of c.args.structs.now)) (area_of b)) c.args.rest.now) c.deref-in-Array.ensures)
    ∙ many_part c.in-Array.length a c.args.step c.args.rest.now (omega arith)
    ∙ ap (λ b. capped_cell_at (tree_of (trees_of (map struct_of c.args.structs.now)) b) (c.args.step ∷ c.args.rest.now)) (sym whole)

pub part_of_fields-returns-in_ok-part-in-Some : goal.part_of_fields-returns-in_ok-part-in-Some
part_of_fields-returns-in_ok-part-in-Some t c =
    let trees = trees_of (map struct_of c.args.earlier.now) in
    let found = slice_get_read c.args.fields.now (length c.args.fields.now) c.args.step c.in-Some.field.now refl c.in-Some.ensures.lookup.3.0 c.in-Some.ensures.lookup.1 in
    let before : c.fields_extent-before.result.cells ≡ capped (count_row (fields_of trees (take c.args.step (map field_of c.args.fields.now)))) =
    ap (λ e. e.cells) c.fields_extent-before.ensures.value ∙ ap (λ fs. capped (count_row (fields_of trees fs))) (sym (take-map field_of c.args.step c.args.fields.now)) in
    c.behind.ensures ∙ ap (λ n. behind n (option_map found_of c.in_ok-part-in-Some.field-0)) before
    ∙ ap (behind (capped (count_row (fields_of trees (take c.args.step (map field_of c.args.fields.now)))))) c.in_ok-part-in-Some.ensures
    ∙ fields_part 0 trees (map field_of c.args.fields.now) c.args.step (field_of c.in-Some.field.now) c.args.rest.now (slice_get-map field_of c.args.fields.now c.args.step ∙ ap (option_map field_of) found)

pub part_of_fields-returns-in-None : goal.part_of_fields-returns-in-None
part_of_fields-returns-in-None t c =
    sym (fields_past 0 (trees_of (map struct_of c.args.earlier.now)) (map field_of c.args.fields.now) c.args.step c.args.rest.now
    (slice_get-map field_of c.args.fields.now c.args.step ∙ ap (option_map field_of) (slice_get_past c.args.fields.now c.args.step c.in-None.ensures.lookup.3)))

pub part_of_struct-returns-in-Some : goal.part_of_struct-returns-in-Some
part_of_struct-returns-in-Some t c =
    let found = slice_get_read c.args.structs.now (length c.args.structs.now) c.args.number c.in-Some.found.now refl c.in-Some.ensures.lookup.3.0 c.in-Some.ensures.lookup.1 in
    subst (λ a. IfOk c.part_of_fields.result (λ f. option_map found_of f ≡ capped_cell_at a (c.args.step ∷ c.args.rest.now)))
    (ap (λ fs. Struct c.args.number (fields_of (trees_of (map struct_of (take c.args.number c.args.structs.now))) (map field_of fs))) c.as_slice.ensures
    ∙ sym (found_tree c.args.structs.now c.args.number c.in-Some.found.now found))
    c.part_of_fields.ensures

pub part_of_struct-returns-in-None : goal.part_of_struct-returns-in-None
part_of_struct-returns-in-None t c =
    ap (λ a. capped_cell_at a (c.args.step ∷ c.args.rest.now)) (sym (missing_tree c.args.structs.now c.args.number (slice_get_past c.args.structs.now c.args.number c.in-None.ensures.lookup.3)))
