use Rattle.std.proofs.Common.{Bool, List, [], ◌∷◌, ◌++◌, map, ap, ◌∙◌}
use Rattle.area_types.specs.View.{field_of}
use Rattle.area_types.specs.declared.FieldDef.{FieldDef}
use Rattle.area_types.specs.declared.StructDef.{StructDef}
use Rattle.item_rules.specs.Cells.{plain_fields}
use Rattle.item_rules.proofs.PlainTrees.{next_struct}
use Rattle.item_rules.proofs.cells.plain_structs.Goals as goal

pub loop-found-preserved : goal.loop-found-preserved
loop-found-preserved c =
    let known : List Bool = c.loop-found.known in
    let s : StructDef = c.found-item.result in
    c.in_ok-push.ensures.ok
    ∙ ap (λ (b : Bool). known ++ b ∷ [])
    (c.are_plain_fields-plain.ensures
    ∙ ap (λ (ks : List Bool). plain_fields ks (map field_of c.as_slice-in-loop-found.result.now)) c.as_slice.ensures
    ∙ ap (λ (fs : List FieldDef). plain_fields known (map field_of fs)) c.as_slice-in-loop-found.ensures)
    ∙ ap (λ (ks : List Bool). ks ++ plain_fields ks (map field_of s.fields) ∷ []) c.loop-found.invariant
    ∙ next_struct c.args.structs.now c.loop-found.found-index s c.loop-found-test.true c.found-item.is
