use Rattle.std.proofs.Common.{◌≡◌, take, map}
use Rattle.c_scopes.proofs.tables.tags.Given as goal

abbrev pub invariant-loop-declared : goal.invariant-loop-declared
invariant-loop-declared l = l.names ≡ map (λ x. x.name) (take l.declared-index l.structs)
