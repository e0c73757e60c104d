use Rattle.std.proofs.Common.{◌≡◌, ◌+◌, ◌*◌, ◌-◌, map, drop}
use Rattle.step_semantics.specs.Steps.{block}
use Rattle.step_semantics.specs.Control.{turns}
use Rattle.c_ast.specs.View.{stmt_of, stmts_of, function_of, expr_of}
use Rattle.c_meaning.specs.State.{leave}
use Rattle.c_meaning.specs.Statements.{exec_all}
use Rattle.c_expressions.specs.Programs.{program_of}
use Rattle.c_expressions.specs.State.{state_of}
use Rattle.run_world.specs.Comes.{world_of}
use Rattle.c_run.specs.Calls.{calls_of, weight, weights, load}
use Rattle.c_run.specs.Choices.{choice_of}
use Rattle.c_run.proofs.walk.+walk.Given as goal

abbrev pub decreases-exec : goal.decreases-exec
decreases-exec l = 8 * (load (map function_of l.functions.now) + weight (stmt_of l.stmt.now))

abbrev pub decreases-exec_all : goal.decreases-exec_all
decreases-exec_all l = 8 * (load (map function_of l.functions.now) + weights (stmts_of l.stmts.now)) + 1

abbrev pub decreases-block : goal.decreases-block
decreases-block l = 8 * (load (map function_of l.functions.now) + weights (stmts_of l.body.now)) + 2

abbrev pub decreases-choice : goal.decreases-choice
decreases-choice l = 8 * (load (map function_of l.functions.now) + weight (choice_of (expr_of l.e.now) l.first.now l.second.now) - 1) + 3

abbrev pub decreases-forever : goal.decreases-forever
decreases-forever l = 8 * (load (map function_of l.functions.now) + weights (stmts_of l.body.now)) + 4

abbrev pub decreases-turn : goal.decreases-turn
decreases-turn l = 8 * (load (map function_of l.functions.now) + weights (stmts_of l.body.now)) + 3

abbrev pub decreases-const_call : goal.decreases-const_call
decreases-const_call l = 8 * load (map function_of l.functions.now) + 7

abbrev pub decreases-dropped_call : goal.decreases-dropped_call
decreases-dropped_call l = 8 * load (map function_of l.functions.now) + 7

abbrev pub decreases-call_step : goal.decreases-call_step
decreases-call_step l = 8 * load (map function_of l.functions.now) + 6

abbrev pub decreases-called : goal.decreases-called
decreases-called l = 8 * load (map function_of l.functions.now) + 5

abbrev pub decreases-named_call : goal.decreases-named_call
decreases-named_call l = 8 * load (map function_of l.functions.now) + 4

abbrev pub decreases-function_call : goal.decreases-function_call
decreases-function_call l = 8 * (load (map function_of l.earlier.now) + weights (stmts_of l.f.now.body)) + 3

abbrev pub invariant-exec_all-loop-stmt : goal.invariant-exec_all-loop-stmt
invariant-exec_all-loop-stmt l =
    exec_all (program_of l.program) (calls_of (program_of l.program) l.functions) (stmts_of (drop l.stmt-index l.stmt-items)) l.run.world.steps (world_of l.run.world) (state_of l.run.state)
    ≡ exec_all (program_of l.program) (calls_of (program_of l.program) l.functions) (stmts_of l.stmts) l.initial.run.world.steps (world_of l.initial.run.world) (state_of l.initial.run.state)

abbrev pub invariant-forever-loop : goal.invariant-forever-loop
invariant-forever-loop l =
    let body = block leave (exec_all (program_of l.program) (calls_of (program_of l.program) l.functions) (stmts_of l.body)) in
    turns (l.most - l.counter) body l.run.world.steps (world_of l.run.world) (state_of l.run.state)
    ≡ turns l.most body l.initial.run.world.steps (world_of l.initial.run.world) (state_of l.initial.run.state)
