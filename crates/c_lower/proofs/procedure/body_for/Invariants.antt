use Rattle.std.proofs.Common.{◌≡◌, map, take}
use Rattle.c_ast.specs.View.{stmt_of}
use Rattle.c_lower.specs.Lowered.{call_for}
use Rattle.c_lower.proofs.procedure.body_for.Given as goal

abbrev pub invariant-loop-call : goal.invariant-loop-call
invariant-loop-call l = map stmt_of l.body ≡ map (call_for l.imports) (take l.call-index l.calls)
