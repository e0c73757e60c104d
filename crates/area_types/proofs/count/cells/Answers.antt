use Rattle.std.proofs.Common.{map, ap, ◌∙◌}
use Rattle.area_types.specs.Extents.{capped}
use Rattle.type_trees.specs.Trees.{count}
use Rattle.area_types.specs.Trees.{tree_of, trees_of}
use Rattle.area_types.specs.View.{area_of, struct_of}
use Rattle.area_types.proofs.Bounds.{cells_exact}
use Rattle.area_types.proofs.count.cells.Goals as goal

pub returns : goal.returns
returns c =
    ap (λ e. e.cells) c.extent.ensures.value
    ∙ ap (λ ss. capped (count (tree_of (trees_of (map struct_of ss)) (area_of c.args.area.now)))) (c.as_slice.ensures ∙ ap (λ t. t.structs) c.table.view_is)
    ∙ cells_exact c.args.table.now (area_of c.args.area.now) c.requires
