use Rattle.std.proofs.Common.{◌≡◌, map, drop, Ok}
use Rattle.c_ast.specs.View.{inits_of}
use Rattle.c_meaning.specs.Initializers.{eval_inits}
use Rattle.c_meaning.specs.Values.{on_ok}
use Rattle.c_expressions.specs.Programs.{program_of}
use Rattle.c_expressions.specs.State.{state_of}
use Rattle.c_statements.specs.Given.{given_of, inits_before}
use Rattle.c_statements.proofs.initial.+initial.Given as goal

abbrev pub invariant-eval_inits-loop-init : goal.invariant-eval_inits-loop-init
invariant-eval_inits-loop-init l =
    on_ok (eval_inits (program_of l.program) (inits_of (drop l.init-index l.init-items)) (state_of l.state)) (λ rest. Ok (inits_before (map given_of l.values) rest))
    ≡ eval_inits (program_of l.program) (inits_of l.inits) (state_of l.state)
