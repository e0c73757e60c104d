use Rattle.std.proofs.Common.{◌∙◌, ap}
use Rattle.std.specs.Prelude.{slice_get}
use Rattle.c_scopes.proofs.FoundPlaces.{got, member_at, no_member}
use Rattle.c_scopes.proofs.tables.MemberTable.find.Goals as goal

pub returns-in-None : goal.returns-in-None
returns-in-None c = no_member c.args.self.now c.args.name.now c.place.result c.place.ensures c.in-None.is

pub returns-in-Some : goal.returns-in-Some
returns-in-Some c =
    got c.get.result c.self.inside.members.now c.in-Some.k c.get.ensures.lookup.1 c.get.ensures.lookup.3 ∙ ap (λ ms. slice_get ms c.in-Some.k) c.self.view_is ∙ member_at c.args.self.now c.args.name.now c.place.result c.in-Some.k c.place.ensures c.in-Some.is
