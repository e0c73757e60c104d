use Rattle.std.proofs.Common.{◌≡◌, ◌++◌, length, map, drop}
use Rattle.core_state.specs.Types.{held_of}
use Rattle.core_statements.specs.Initial.{types_of, zero_held}
use Rattle.core_statements.proofs.initial.add_zeros.Given as goal

abbrev pub invariant-loop-i : goal.invariant-loop-i
invariant-loop-i l = map held_of l.parts ++ map zero_held (drop l.i (types_of l.types)) ≡ map held_of l.initial.parts ++ map zero_held (drop (length l.initial.parts) (types_of l.types))
