use Rattle.std.proofs.Common.{◌∙◌, ap}
use Rattle.name_tables.specs.FirstPlaces.{first_from}
use Rattle.c_ast.specs.Places.{place_from}
use Rattle.c_scopes.proofs.FoundPlaces.{place_is}
use Rattle.c_scopes.proofs.tables.StructTable.find.Goals as goal

pub returns : goal.returns
returns c =
    c.find.ensures ∙ ap (λ names. first_from 0 names c.args.tag.now) c.self.invariant.tagged ∙ place_is 0 c.self.inside.structs.now c.args.tag.now ∙ ap (λ ss. place_from 0 ss c.args.tag.now) c.self.view_is
