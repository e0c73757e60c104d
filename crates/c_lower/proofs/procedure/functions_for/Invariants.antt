use Rattle.std.proofs.Common.{◌≡◌, map, take}
use Rattle.c_ast.specs.View.{function_of}
use Rattle.c_lower.specs.Lowered.{function_for}
use Rattle.c_lower.proofs.procedure.functions_for.Given as goal

abbrev pub invariant-loop-proc : goal.invariant-loop-proc
invariant-loop-proc l = map function_of l.functions ≡ map (function_for l.imports) (take l.proc-index l.procs)
