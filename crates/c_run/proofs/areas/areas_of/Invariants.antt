use Rattle.std.proofs.Common.{◌≡◌, ◌++◌, map, drop}
use Rattle.c_ast.specs.View.{object_of}
use Rattle.c_meaning.specs.State.{seen_from}
use Rattle.c_expressions.specs.State.{state_of}
use Rattle.c_run.proofs.areas.areas_of.Given as goal

abbrev pub invariant-loop-o : goal.invariant-loop-o
invariant-loop-o l =
    l.areas ++ seen_from l.program.target l.program.unit.structs (state_of l.state) l.o (map object_of (drop l.o l.objects)) ≡ seen_from l.program.target l.program.unit.structs (state_of l.state) 0 (map object_of l.objects)
