use Rattle.std.proofs.lemmas.Result.{err_from_is_err_and}
use Rattle.std.proofs.Common.{◌≡◌, ◌+◌, ◌-◌, suc, List, length, map, Ok, Err, refl, sym, ap, ◌∙◌, arith, subst}
use Rattle.std.specs.Prelude.{Option}
use Rattle.std.specs.Option.{option_map}
use Rattle.step_semantics.specs.Steps.{Part, after, block, tick}
use Rattle.step_semantics.specs.Control.{again, counted, turns}
use Rattle.core_tree.specs.Cores.{core_of}
use Rattle.core_tree.specs.View.{stmt_of, stmts_of, proc_of}
use Rattle.core_tree.proofs.View.{map_is}
use Rattle.core_meaning.specs.Conditions.{ensured}
use Rattle.core_meaning.specs.State as meaning
use Rattle.core_meaning.specs.State.{leave, seen, with_name}
use Rattle.core_meaning.specs.Statements.{exec, turn}
use Rattle.core_meaning.specs.Values as values
use Rattle.core_state.specs.State.{value_of, state_of}
use Rattle.run_world.specs.Comes.{Comes, world_of}
use Rattle.run_world.proofs.Comes.{stops, ticked}
use Rattle.core_statements.specs.Parts.{control_of, Does}
use Rattle.core_statements.specs.declared.Run.{Run}
use Rattle.core_run.specs.Calls.{calls_of, weights}
use Rattle.core_run.specs.Loops.{next_of}
use Rattle.core_run.proofs.Calls.{one_weight}
use Rattle.core_run.proofs.Walks.{body_of, block_ends, turn_ends}
use Rattle.core_run.proofs.walk.+walk.Goals as goal

pub exec_all-exec-requires : goal.exec_all-exec-requires
exec_all-exec-requires t c =
    (omega (arith, c.decreases, one_weight c.as_slice-stmt-items.result.now c.loop-stmt.stmt-index c.stmt-item.result c.loop-stmt-test.true c.stmt-item.is, ap (λ l. weights (stmts_of l)) c.as_slice-stmt-items.ensures), tt)

pub block-returns : goal.block-returns
block-returns t c =
    let areas : c.len-areas.result ≡ length c.args.run.now.state.areas.items = omega (arith, c.len-areas.ensures) in
    block_ends c.args.program.now c.args.earlier.now c.args.proc.now (stmts_of c.args.body.now) c.args.run.now c.exec_all.new.run c.in_ok-control.control c.len-names.result c.len-areas.result c.leave.new.self c.in_ok-control.ensures c.len-names.ensures
    areas c.leave.ensures

pub turn-returns : goal.turn-returns
turn-returns t c =
    let p = c.args.program.now in
    let run = c.args.run.now in
    let body = block leave (body_of p c.args.earlier.now c.args.proc.now (stmts_of c.args.body.now)) in
    ticked (seen (core_of p)) control_of body c.in_ok-tick.field-0 run.world c.tick.new.self (state_of run.state) c.block.result c.block.new.run.world (state_of c.block.new.run.state) c.in_ok-tick.ensures c.block.ensures

pub forever-loop-preserved : goal.forever-loop-preserved
forever-loop-preserved t c =
    let p = c.args.program.now in
    let run = c.loop.run in
    let body = block leave (body_of p c.args.earlier.now c.args.proc.now (stmts_of c.args.body.now)) in
    let most = c.args.run.now.world.steps in
    let less = most - (c.loop.counter + 1) in
    let is : most - c.loop.counter ≡ suc less = omega (arith, c.loop-test.true) in
    let h = subst (λ x. Does p control_of (tick body) run c.turn.new.run (Ok x)) c.in-Falls.is c.in_ok-turn.ensures in
    sym (ap (λ x. after x (again (turns less body))) h) ∙ ap (λ n. turns n body run.world.steps (world_of run.world) (state_of run.state)) (sym is) ∙ c.loop.invariant

pub counted_turn-returns : goal.counted_turn-returns
counted_turn-returns t c =
    let p = c.args.program.now in
    let ps = c.args.earlier.now in
    let proc = c.args.proc.now in
    let run = c.args.run.now in
    let ss = stmts_of c.args.body.now in
    let old : Run = record { state = run.state; world = c.tick.new.self } in
    let named : Run = record { state = c.add_name.new.self; world = c.tick.new.self } in
    let areas : c.len-areas.result ≡ length run.state.areas.items = omega (arith, c.len-areas.ensures) in
    let is = c.in_ok-add_name.ensures.state ∙ ap (λ v. with_name c.args.number v (state_of run.state)) c.count.ensures in
    ticked (seen (core_of p)) control_of (turn c.args.number (body_of p ps proc ss) c.args.i) c.in_ok-tick.field-0 run.world c.tick.new.self (state_of run.state) (Ok c.in_ok-control.control) c.exec_all.new.run.world (state_of c.leave.new.self) c.in_ok-tick.ensures
    (turn_ends p ps proc ss c.args.number c.args.i old named c.exec_all.new.run c.in_ok-control.control c.len-names.result c.len-areas.result c.leave.new.self is refl c.in_ok-control.ensures c.len-names.ensures areas c.leave.ensures)

pub counted-loop-preserved : goal.counted-loop-preserved
counted-loop-preserved t c =
    let p = c.args.program.now in
    let run = c.loop.run in
    let body = turn c.args.number (body_of p c.args.earlier.now c.args.proc.now (stmts_of c.args.body.now)) in
    let next = next_of c.args.turns.down in
    let more = c.args.turns.more in
    let less = more - (c.loop.counter + 1) in
    let i = c.loop.i in
    let new = c.counted_turn.new.run in
    let is : more - c.loop.counter ≡ suc less = omega (arith, c.loop-test.true) in
    let h = subst (λ x. Does p control_of (tick (body i)) run new (Ok x)) c.in-Falls.is c.in_ok-counted_turn.ensures in
    ap (λ j. counted less next j body new.world.steps (world_of new.world) (state_of new.state)) c.in_ok-i-in-Falls.ensures
    ∙ sym (ap (λ x. after x (again (counted less next (next i) body))) h) ∙ ap (λ n. counted n next i body run.world.steps (world_of run.world) (state_of run.state)) (sym is) ∙ c.loop.invariant

pub counted-returns-in_err-counted_turn : goal.counted-returns-in_err-counted_turn
counted-returns-in_err-counted_turn t c =
    let q = err_from_is_err_and c.from_residual.result c.from_residual.ensures.1 in
    let p = c.args.program.now in
    let run = c.loop.run in
    let body = turn c.args.number (body_of p c.args.earlier.now c.args.proc.now (stmts_of c.args.body.now)) in
    let next = next_of c.args.turns.down in
    let more = c.args.turns.more in
    let less = more - (c.loop.counter + 1) in
    let i = c.loop.i in
    let new = c.counted_turn.new.run in
    let why = c.in_err-counted_turn.field-0.0 in
    let is : more - c.loop.counter ≡ suc less = omega (arith, c.loop-test.true) in
    let whole = ap (λ n. counted n next i body run.world.steps (world_of run.world) (state_of run.state)) (sym is) ∙ c.loop.invariant in
    rw (q.1, q.2) (subst (λ r. Comes (seen (core_of p)) control_of r (Err why) new.world (state_of new.state)) whole
    (stops (seen (core_of p)) control_of control_of (tick (body i) run.world.steps (world_of run.world) (state_of run.state)) (again (counted less next (next i) body)) why new.world (state_of new.state) c.in_err-counted_turn.ensures))

pub exec-returns-in-Map : goal.exec-returns-in-Map
exec-returns-in-Map t c =
    let p = c.args.program.now in
    let core = core_of p in
    let same = ap stmt_of c.in-Map.is ∙ map_is c.in-Map.number c.in-Map.length c.in-Map.body in
    subst (λ st. Does p control_of (exec core (calls_of core c.args.earlier.now) (ensured core (proc_of c.args.proc.now)) st) c.args.run.now c.map_loop.new.run c.map_loop.result) (sym same) c.map_loop.ensures

pub numbered_call-procedure_call-requires : goal.numbered_call-procedure_call-requires
numbered_call-procedure_call-requires t c = (omega (arith, c.decreases, c.in-Some.ensures.less), tt)

pub numbered_call-returns-in-Some : goal.numbered_call-returns-in-Some
numbered_call-returns-in-Some t c =
    let p = c.args.program.now in
    subst (λ (part : Part meaning.State (Option values.Value)). Does p (option_map value_of) part c.args.run.now c.procedure_call.new.run c.procedure_call.result) (sym (c.in-Some.ensures.called (core_of p) (map value_of c.args.args))) c.procedure_call.ensures
