use Rattle.std.proofs.Common.{◌≡◌, ◌+◌, ◌*◌, ◌-◌, map, drop}
use Rattle.step_semantics.specs.Steps.{block}
use Rattle.step_semantics.specs.Control.{turns, counted}
use Rattle.core_tree.specs.Cores.{core_of}
use Rattle.core_tree.specs.View.{stmt_of, stmts_of, proc_of, expr_of}
use Rattle.core_meaning.specs.Conditions.{ensured}
use Rattle.core_meaning.specs.State.{leave}
use Rattle.core_meaning.specs.Statements.{exec_all, turn}
use Rattle.core_state.specs.State.{state_of}
use Rattle.run_world.specs.Comes.{world_of}
use Rattle.core_run.specs.Calls.{calls_of, weight, weights, load}
use Rattle.core_run.specs.Loops.{choice_of, next_of}
use Rattle.core_run.proofs.walk.+walk.Given as goal

abbrev pub decreases-exec : goal.decreases-exec
decreases-exec l = 8 * (load (map proc_of l.earlier.now) + weight (stmt_of l.stmt.now))

abbrev pub decreases-exec_all : goal.decreases-exec_all
decreases-exec_all l = 8 * (load (map proc_of l.earlier.now) + weights (stmts_of l.stmts.now)) + 1

abbrev pub decreases-block : goal.decreases-block
decreases-block l = 8 * (load (map proc_of l.earlier.now) + weights (stmts_of l.body.now)) + 2

abbrev pub decreases-choice : goal.decreases-choice
decreases-choice l = 8 * (load (map proc_of l.earlier.now) + weight (choice_of (expr_of l.test.now) l.first.now l.second.now) - 1) + 3

abbrev pub decreases-turn : goal.decreases-turn
decreases-turn l = 8 * (load (map proc_of l.earlier.now) + weights (stmts_of l.body.now)) + 3

abbrev pub decreases-forever : goal.decreases-forever
decreases-forever l = 8 * (load (map proc_of l.earlier.now) + weights (stmts_of l.body.now)) + 4

abbrev pub decreases-counted_turn : goal.decreases-counted_turn
decreases-counted_turn l = 8 * (load (map proc_of l.earlier.now) + weights (stmts_of l.body.now)) + 2

abbrev pub decreases-last_turn : goal.decreases-last_turn
decreases-last_turn l = 8 * (load (map proc_of l.earlier.now) + weights (stmts_of l.body.now)) + 3

abbrev pub decreases-counted : goal.decreases-counted
decreases-counted l = 8 * (load (map proc_of l.earlier.now) + weights (stmts_of l.body.now)) + 4

abbrev pub decreases-map_loop : goal.decreases-map_loop
decreases-map_loop l = 8 * (load (map proc_of l.earlier.now) + weights (stmts_of l.body.now)) + 5

abbrev pub decreases-upto : goal.decreases-upto
decreases-upto l = 8 * (load (map proc_of l.earlier.now) + weights (stmts_of l.body.now)) + 5

abbrev pub decreases-downto : goal.decreases-downto
decreases-downto l = 8 * (load (map proc_of l.earlier.now) + weights (stmts_of l.body.now)) + 5

abbrev pub decreases-let_call : goal.decreases-let_call
decreases-let_call l = 8 * load (map proc_of l.earlier.now) + 7

abbrev pub decreases-dropped_call : goal.decreases-dropped_call
decreases-dropped_call l = 8 * load (map proc_of l.earlier.now) + 7

abbrev pub decreases-call_step : goal.decreases-call_step
decreases-call_step l = 8 * load (map proc_of l.earlier.now) + 6

abbrev pub decreases-called : goal.decreases-called
decreases-called l = 8 * load (map proc_of l.earlier.now) + 5

abbrev pub decreases-numbered_call : goal.decreases-numbered_call
decreases-numbered_call l = 8 * load (map proc_of l.earlier.now) + 4

abbrev pub decreases-procedure_call : goal.decreases-procedure_call
decreases-procedure_call l = 8 * (load (map proc_of l.earlier.now) + weights (stmts_of l.proc.now.body)) + 3

abbrev pub decreases-body : goal.decreases-body
decreases-body l = 8 * (load (map proc_of l.earlier.now) + weights (stmts_of l.proc.now.body)) + 2

abbrev pub invariant-exec_all-loop-stmt : goal.invariant-exec_all-loop-stmt
invariant-exec_all-loop-stmt l =
    let calls = calls_of (core_of l.program) l.earlier in
    let ensures = ensured (core_of l.program) (proc_of l.proc) in
    exec_all (core_of l.program) calls ensures (stmts_of (drop l.stmt-index l.stmt-items)) l.run.world.steps (world_of l.run.world) (state_of l.run.state)
    ≡ exec_all (core_of l.program) calls ensures (stmts_of l.stmts) l.initial.run.world.steps (world_of l.initial.run.world) (state_of l.initial.run.state)

abbrev pub invariant-forever-loop : goal.invariant-forever-loop
invariant-forever-loop l =
    let body = block leave (exec_all (core_of l.program) (calls_of (core_of l.program) l.earlier) (ensured (core_of l.program) (proc_of l.proc)) (stmts_of l.body)) in
    turns (l.most - l.counter) body l.run.world.steps (world_of l.run.world) (state_of l.run.state)
    ≡ turns l.most body l.initial.run.world.steps (world_of l.initial.run.world) (state_of l.initial.run.state)

abbrev pub invariant-counted-loop : goal.invariant-counted-loop
invariant-counted-loop l =
    let body = turn l.number (exec_all (core_of l.program) (calls_of (core_of l.program) l.earlier) (ensured (core_of l.program) (proc_of l.proc)) (stmts_of l.body)) in
    counted (l.turns.more - l.counter) (next_of l.turns.down) l.i body l.run.world.steps (world_of l.run.world) (state_of l.run.state)
    ≡ counted l.turns.more (next_of l.turns.down) l.turns.first body l.initial.run.world.steps (world_of l.initial.run.world) (state_of l.initial.run.state)
