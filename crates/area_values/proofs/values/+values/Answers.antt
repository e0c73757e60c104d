use Rattle.std.proofs.Common.{◌≡◌, ◌<◌, ◌+◌, ◌++◌, drop, ℤ, List, length, get_or, take, map, ap, sym, ◌∙◌, refl, subst, append-nil}
use Rattle.std.proofs.lemmas.Option.{slice_get_read, slice_get_past}
use Rattle.std.proofs.lemmas.Result.{on_ok_weaker}
use Rattle.area_types.specs.Tables.{tree_over}
use Rattle.area_types.specs.Trees.{trees_of}
use Rattle.area_types.specs.View.{area_of, field_of, struct_of}
use Rattle.area_types.specs.declared.FieldDef.{FieldDef}
use Rattle.core_tree.specs.View.{inits_of}
use Rattle.core_tree.specs.declared.CoreInit.{CoreInit}
use Rattle.typing_rules.specs.Initializers.{element_values}
use Rattle.area_values.specs.Values.{values_of_fields}
use Rattle.area_values.proofs.ZeroCells.{struct_valued, none_valued}
use Rattle.area_values.proofs.Rests.{element_more, field_more}
use Rattle.area_values.proofs.values.+values.Goals as goal

pub add_elements-loop-init-preserved : goal.add_elements-loop-init-preserved
add_elements-loop-init-preserved t c =
    let inits : List CoreInit = c.args.inits.now in
    let at = c.loop-init.init-index in
    let within : at < length inits = subst (λ (is : List CoreInit). at < length is) c.as_slice-init-items.ensures c.loop-init-test.true in
    let is : c.init-item.result ≡ get_or inits at c.init-item.result = subst (λ (xs : List CoreInit). c.init-item.result ≡ get_or xs at c.init-item.result) c.as_slice-init-items.ensures c.init-item.is in
    ap (λ n. c.add_values.new.values ++ element_values n (tree_over c.args.structs.now (area_of c.args.element.now)) (inits_of (drop (at + 1) inits))) c.saturating_sub-left.ensures
    ∙ element_more c.loop-init.left (tree_over c.args.structs.now (area_of c.args.element.now)) inits at c.init-item.result c.loop-init.values c.add_values.new.values _ within is c.in_ok-add_values.ensures c.loop-init.invariant

pub add_fields-loop-init-preserved : goal.add_fields-loop-init-preserved
add_fields-loop-init-preserved t c =
    let inits : List CoreInit = c.args.inits.now in
    let at = c.loop-init.init-index in
    let within : at < length inits = subst (λ (is : List CoreInit). at < length is) c.as_slice-init-items.ensures c.loop-init-test.true in
    let is : c.init-item.result ≡ get_or inits at c.init-item.result = subst (λ (xs : List CoreInit). c.init-item.result ≡ get_or xs at c.init-item.result) c.as_slice-init-items.ensures c.init-item.is in
    field_more (trees_of (map struct_of c.args.earlier.now)) c.loop-init.rest.now c.in-Some.later.now c.in-Some.field.now inits at c.init-item.result c.loop-init.values c.add_values.new.values _ within is c.in-Some.ensures.cases.0
    c.in_ok-add_values-in-Some.ensures c.loop-init.invariant

pub add_struct-returns-in-Some : goal.add_struct-returns-in-Some
add_struct-returns-in-Some t c =
    let found = slice_get_read c.args.structs.now (length c.args.structs.now) c.args.number c.in-Some.found.now refl c.in-Some.ensures.lookup.3.0 c.in-Some.ensures.lookup.1 in
    on_ok_weaker c.add_fields.result
    (λ is. is ∙ ap (λ (fs : List FieldDef). c.args.values.now ++ values_of_fields (trees_of (map struct_of (take c.args.number c.args.structs.now))) (map field_of fs) (inits_of c.args.inits.now)) c.as_slice.ensures
    ∙ ap (λ (xs : List ℤ). c.args.values.now ++ xs) (sym (struct_valued c.args.structs.now c.args.number c.in-Some.found.now (inits_of c.args.inits.now) found)))
    c.add_fields.ensures

pub add_struct-returns-in-None : goal.add_struct-returns-in-None
add_struct-returns-in-None t c =
    sym (ap (λ (xs : List ℤ). c.args.values.now ++ xs) (none_valued c.args.structs.now c.args.number (inits_of c.args.inits.now) (slice_get_past c.args.structs.now c.args.number c.in-None.ensures.lookup.3)) ∙ append-nil c.args.values.now)
