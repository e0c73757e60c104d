use Rattle.std.proofs.Common.{◌≡◌, ◌++◌, map, drop}
use Rattle.c_operators.specs.Values.{value_of}
use Rattle.c_statements.specs.Cells.{all_behind}
use Rattle.c_statements.proofs.cells.cells_behind.Given as goal

abbrev pub invariant-loop-v : goal.invariant-loop-v
invariant-loop-v l = l.found ++ all_behind l.program.target l.program.unit.structs (map value_of (drop l.v-index l.values)) ≡ all_behind l.program.target l.program.unit.structs (map value_of l.values)
