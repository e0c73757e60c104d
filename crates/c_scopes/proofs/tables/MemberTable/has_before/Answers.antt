use Rattle.c_scopes.proofs.FoundPlaces.{had_before, not_before}
use Rattle.c_scopes.proofs.tables.MemberTable.has_before.Goals as goal

pub returns-in-Some : goal.returns-in-Some
returns-in-Some c = had_before c.args.count c.args.self.now c.args.name.now c.place.result c.in-Some.k c.place.ensures c.in-Some.is

pub returns-in-None : goal.returns-in-None
returns-in-None c = not_before c.args.count c.args.self.now c.args.name.now c.place.result c.place.ensures c.in-None.is
