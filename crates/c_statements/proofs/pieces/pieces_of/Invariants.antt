use Rattle.std.proofs.Common.{◌≡◌, ◌++◌, map, drop, Ok}
use Rattle.c_meaning.specs.Calls.{pieces_of}
use Rattle.c_meaning.specs.Values.{on_ok}
use Rattle.c_objects.specs.Store.{objects_of}
use Rattle.c_operators.specs.Values.{value_of}
use Rattle.c_statements.proofs.pieces.pieces_of.Given as goal

abbrev pub invariant-loop-v : goal.invariant-loop-v
invariant-loop-v l =
    on_ok (pieces_of l.program.target l.program.unit.structs (objects_of l.objects) (map value_of (drop l.v-index l.values))) (λ rest. Ok (l.pieces ++ rest))
    ≡ pieces_of l.program.target l.program.unit.structs (objects_of l.objects) (map value_of l.values)
