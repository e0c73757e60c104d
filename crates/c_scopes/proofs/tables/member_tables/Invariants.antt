use Rattle.std.proofs.Common.{◌≡◌, take, map}
use Rattle.c_scopes.proofs.tables.member_tables.Given as goal

abbrev pub invariant-loop-declared : goal.invariant-loop-declared
invariant-loop-declared l = l.tables ≡ map (λ x. x.members) (take l.declared-index l.structs)
