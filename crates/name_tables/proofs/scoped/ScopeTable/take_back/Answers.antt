use Rattle.name_tables.proofs.Shadowings.{latest_is_there, scoped_less}
use Rattle.name_tables.proofs.scoped.ScopeTable.take_back.Goals as goal

pub restore-requires : goal.restore-requires
restore-requires g c = latest_is_there c.self.inside.hashed c.self.inside.entries c.pop.new.self c.in-Some.last c.in-Some.ensures c.self.invariant

pub invariant_of-self-in-Some : goal.invariant_of-self-in-Some
invariant_of-self-in-Some g c = scoped_less c.self.inside.hashed c.restore.new.hashed c.self.inside.entries c.pop.new.self c.in-Some.last c.in-Some.ensures c.self.invariant c.restore.ensures
