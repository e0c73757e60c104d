use Rattle.std.proofs.Common.{Bool, not, List, map, ap, sym, ◌∙◌}
use Rattle.area_types.specs.Trees.{trees_of}
use Rattle.area_types.specs.View.{area_of, struct_of}
use Rattle.area_types.specs.declared.StructDef.{StructDef}
use Rattle.item_rules.specs.Cells.{plain_structs, plain_area}
use Rattle.item_rules.proofs.PlainTrees.{plain_tree}
use Rattle.item_rules.proofs.cells.has_others.Goals as goal

pub returns : goal.returns
returns c =
    ap not
    (c.is_plain_area.ensures
    ∙ ap (λ (ks : List Bool). plain_area ks (area_of c.args.area.now)) (c.as_slice-2.ensures ∙ c.in_ok-known.ensures ∙ ap (λ (ss : List StructDef). plain_structs (map struct_of ss)) c.as_slice.ensures)
    ∙ sym (plain_tree (trees_of (map struct_of c.args.items.now.structs)) (area_of c.args.area.now)))
