use Rattle.std.proofs.Common.{◌≡◌, ◌++◌, map, drop, Ok}
use Rattle.c_meaning.specs.Values.{on_ok, as_arguments}
use Rattle.c_operators.specs.Values.{value_of}
use Rattle.c_statements.specs.Arguments.{types_of}
use Rattle.c_statements.proofs.arguments.as_arguments.Given as goal

abbrev pub invariant-loop-i : goal.invariant-loop-i
invariant-loop-i l =
    on_ok (as_arguments l.t (drop l.i (types_of l.params)) (map value_of (drop l.i l.values))) (λ rest. Ok (map value_of l.converted ++ rest))
    ≡ as_arguments l.t (types_of l.params) (map value_of l.values)
