use Rattle.std.proofs.Common.{◌≡◌, map, IfOk, IsTrue, ap, ◌∙◌, subst}
use Rattle.std.specs.Prelude.{IfSome}
use Rattle.std.specs.Option.{option_map}
use Rattle.area_types.specs.Extents.{capped_cell_at}
use Rattle.area_types.specs.Tables.{structs_of, written_out, is_table, is_area}
use Rattle.area_types.specs.Trees.{tree_of, trees_of, cell_at}
use Rattle.area_types.specs.View.{area_of, struct_of, found_of}
use Rattle.area_types.proofs.Bounds.{cell_exact}
use Rattle.area_types.proofs.Within.{found_area, if_ok_more}
use Rattle.area_types.proofs.part.cell_at.Goals as goal

pub returns-clause-part : goal.returns-clause-part
returns-clause-part c =
    subst (λ o. IfOk c.part.result (λ found. option_map found_of found ≡ o))
    (ap (λ ss. capped_cell_at (tree_of (trees_of (map struct_of ss)) (area_of c.args.area.now)) c.as_slice-3.result.now) (c.as_slice.ensures ∙ ap (λ t. t.structs) c.table.view_is)
    ∙ ap (capped_cell_at (written_out c.args.table.now (area_of c.args.area.now))) c.as_slice-3.ensures
    ∙ cell_exact c.args.table.now (area_of c.args.area.now) c.args.path.now c.requires)
    c.part.ensures

pub returns-clause-area : goal.returns-clause-area
returns-clause-area c =
    let table = subst (λ t. IsTrue (is_table (structs_of t) t.words)) c.table.view_is c.table.invariant in
    if_ok_more (λ found. option_map found_of found ≡ cell_at (written_out c.args.table.now (area_of c.args.area.now)) c.args.path.now)
    (λ found. IfSome found (λ f. IsTrue (is_area c.args.table.now (area_of f.1)))) c.part.result
    (λ found e. found_area c.args.table.now (area_of c.args.area.now) c.args.path.now table c.requires found e) (returns-clause-part c)
