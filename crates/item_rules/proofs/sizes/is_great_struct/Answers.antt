use Rattle.std.proofs.Common.{ℕ, not, List, length, map, ap, sym, ◌∙◌}
use Rattle.std.proofs.lemmas.List.{length-map}
use Rattle.iv_words.specs.declared.IntKind.{IntKind}
use Rattle.type_trees.specs.Trees.{Struct}
use Rattle.ivory_tree.specs.Syntax.{FieldSyntax}
use Rattle.ivory_tree.specs.View.{field_of}
use Rattle.area_types.specs.Syntax.{Field}
use Rattle.area_types.specs.Tables.{is_small, fields_over}
use Rattle.area_types.specs.Trees.{fields_of, trees_of}
use Rattle.area_types.specs.View.{struct_of}
use Rattle.area_types.specs.declared.FieldDef.{FieldDef}
use Rattle.area_types.specs.declared.StructDef.{StructDef}
use Rattle.source_types.specs.Environments.{Earlier, words}
use Rattle.rule_checker.specs.Contexts.{earlier_of}
use Rattle.item_rules.proofs.StructSizes.{struct_size}
use Rattle.item_rules.proofs.sizes.is_great_struct.Goals as goal

pub returns : goal.returns
returns c =
    let e : Earlier = earlier_of c.args.items.now in
    let fs : List FieldSyntax = map field_of c.args.fields.now in
    let structs : List StructDef = c.args.items.now.structs in
    ap not
    (c.are_small.ensures
    ∙ ap (λ (ds : List FieldDef). is_small c.as_slice-3.result.now (Struct (length c.as_slice-2.result.now) (fields_over c.as_slice-2.result.now ds))) c.as_slice.ensures
    ∙ ap (λ (ss : List StructDef). is_small c.as_slice-3.result.now (Struct (length ss) (fields_over ss c.in_ok-found.found.fields))) c.as_slice-2.ensures
    ∙ ap (λ (ws : List IntKind). is_small ws (Struct (length structs) (fields_over structs c.in_ok-found.found.fields))) (c.as_slice-3.ensures ∙ c.in_ok-words.ensures)
    ∙ ap (λ (n : ℕ). is_small (words e) (Struct n (fields_over structs c.in_ok-found.found.fields))) (sym (length-map structs struct_of))
    ∙ ap (λ (xs : List Field). is_small (words e) (Struct (length (map struct_of structs)) (fields_of (trees_of (map struct_of structs)) xs))) c.in_ok-found.ensures.fields)
    ∙ struct_size e fs (sym c.in_ok-found.ensures.all ∙ c.if-not-found.false)
