use Rattle.std.proofs.Common.{sym, ap, ◌∙◌}
use Rattle.c_ast.specs.Structs.{tree}
use Rattle.c_ast.proofs.Structs.{tree_missing}
use Rattle.c_scopes.specs.StructViews.{structs_view}
use Rattle.c_scopes.specs.Views.{base_view}
use Rattle.c_scopes.proofs.FoundPlaces.{place_within_all, struct_found}
use Rattle.c_scopes.proofs.shapes.shape_of.Goals as goal

pub tag-requires : goal.tag-requires
tag-requires c = place_within_all c.args.structs.count c.args.structs.table.now c.in-Struct.tag.now c.find.result c.in-Some.k c.find.ensures.place c.in-Some.is

pub members-requires : goal.members-requires
members-requires c = place_within_all c.args.structs.count c.args.structs.table.now c.in-Struct.tag.now c.find.result c.in-Some.k c.find.ensures.place c.in-Some.is

pub returns-in-Some : goal.returns-in-Some
returns-in-Some c =
    struct_found c.args.structs.count c.args.structs.table.now c.in-Struct.tag.now c.tag.result.now c.members.result.now c.find.result c.in-Some.k c.find.ensures.place c.in-Some.is c.tag.ensures c.members.ensures
    ∙ sym (ap (λ b. tree (structs_view c.args.structs) (base_view b)) c.in-Struct.is)

pub returns-in-None : goal.returns-in-None
returns-in-None c = sym (ap (λ b. tree (structs_view c.args.structs) (base_view b)) c.in-Struct.is ∙ tree_missing (structs_view c.args.structs) c.in-Struct.tag.now (sym c.find.ensures.place ∙ c.in-None.is))
