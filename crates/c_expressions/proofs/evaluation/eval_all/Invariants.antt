use Rattle.std.proofs.Common.{◌≡◌, ◌++◌, map, drop, Ok}
use Rattle.c_ast.specs.View.{expr_of}
use Rattle.c_meaning.specs.Expressions.{eval_all}
use Rattle.c_meaning.specs.Values.{on_ok}
use Rattle.c_operators.specs.Values.{value_of}
use Rattle.c_expressions.specs.Programs.{program_of}
use Rattle.c_expressions.specs.State.{state_of}
use Rattle.c_expressions.proofs.evaluation.eval_all.Given as goal

abbrev pub invariant-loop-e : goal.invariant-loop-e
invariant-loop-e l = on_ok (eval_all (program_of l.program) (map expr_of (drop l.e-index l.es)) (state_of l.state)) (λ vs. Ok (map value_of l.values ++ vs)) ≡ eval_all (program_of l.program) (map expr_of l.es) (state_of l.state)
