use Rattle.std.proofs.Common.{◌∙◌, ap, sym, List, [], Some}
use Rattle.std.specs.Option.{option_map, option_copied}
use Rattle.c_ast.specs.declared.unit.CMember.{CMember}
use Rattle.c_ast.specs.Structs.{CTree, base_tree, table, times, tree}
use Rattle.c_ast.specs.Syntax.{Name}
use Rattle.c_scopes.specs.StructViews.{structs_view}
use Rattle.c_scopes.proofs.FoundPlaces.{member_found}
use Rattle.c_scopes.proofs.shapes.found_member.Goals as goal

pub returns-in-None : goal.returns-in-None
returns-in-None c =
    let rows : List (Name × CTree) = table [] (structs_view c.args.structs) in
    let says : CMember → CTree = λ m. times m.length (base_tree rows m.base) in
    ap (λ found. option_map says (option_copied found)) (sym c.in-None.is) ∙ ap (option_map says) c.find.ensures ∙ member_found rows c.args.members.now c.args.name.now

pub returns-in-Some : goal.returns-in-Some
returns-in-Some c =
    let rows : List (Name × CTree) = table [] (structs_view c.args.structs) in
    let says : CMember → CTree = λ m. times m.length (base_tree rows m.base) in
    ap Some (c.times_shape.ensures ∙ ap (λ b. times c.in-Some.m.now.length (tree (structs_view c.args.structs) b)) c.base_of.ensures)
    ∙ ap (λ found. option_map says (option_copied found)) (sym c.in-Some.is) ∙ ap (option_map says) c.find.ensures ∙ member_found rows c.args.members.now c.args.name.now
