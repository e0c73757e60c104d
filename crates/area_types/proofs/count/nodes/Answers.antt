use Rattle.std.proofs.Common.{map, ap, ◌∙◌, IsTrue, subst}
use Rattle.area_types.specs.Extents.{capped}
use Rattle.area_types.specs.Tables.{structs_of, is_table}
use Rattle.type_trees.specs.Trees.{nodes}
use Rattle.area_types.specs.Trees.{tree_of, trees_of}
use Rattle.area_types.specs.View.{area_of, struct_of}
use Rattle.area_types.proofs.Bounds.{nodes_exact}
use Rattle.area_types.proofs.count.nodes.Goals as goal

pub returns : goal.returns
returns c =
    ap (λ e. e.nodes) c.extent.ensures.value
    ∙ ap (λ ss. capped (nodes (tree_of (trees_of (map struct_of ss)) (area_of c.args.area.now)))) (c.as_slice.ensures ∙ ap (λ t. t.structs) c.table.view_is)
    ∙ nodes_exact c.args.table.now (area_of c.args.area.now) (subst (λ t. IsTrue (is_table (structs_of t) t.words)) c.table.view_is c.table.invariant) c.requires
