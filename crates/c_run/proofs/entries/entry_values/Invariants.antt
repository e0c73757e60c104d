use Rattle.std.proofs.Common.{◌≡◌, ◌++◌, map, drop, Ok}
use Rattle.c_meaning.specs.Runs.{entry_values, param_types}
use Rattle.c_meaning.specs.Values.{on_ok}
use Rattle.c_operators.specs.Values.{value_of}
use Rattle.c_run.proofs.entries.entry_values.Given as goal

abbrev pub invariant-loop-i : goal.invariant-loop-i
invariant-loop-i l = on_ok (entry_values (param_types (drop l.i l.params)) (drop l.i l.numbers)) (λ rest. Ok (map value_of l.values ++ rest)) ≡ entry_values (param_types l.params) l.numbers
