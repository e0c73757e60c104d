use Rattle.std.proofs.Common.{◌≡◌, take, map}
use Rattle.c_scopes.proofs.tables.member_names.Given as goal

abbrev pub invariant-loop-member : goal.invariant-loop-member
invariant-loop-member l = l.names ≡ map (λ x. x.name) (take l.member-index l.members)
