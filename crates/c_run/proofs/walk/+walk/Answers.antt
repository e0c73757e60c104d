use Rattle.std.proofs.Common.{◌≡◌, ◌+◌, ◌-◌, suc, List, map, Ok, sym, ap, ◌∙◌, arith, subst}
use Rattle.c_ast.specs.View.{stmts_of, call_of, expr_of}
use Rattle.step_semantics.specs.Steps.{Part, give, after, block, tick}
use Rattle.step_semantics.specs.Control.{again, turns}
use Rattle.std.specs.List.{find}
use Rattle.std.specs.Prelude.{Bool, Option, if◌then◌else◌}
use Rattle.iv_words.specs.Words.{same_word}
use Rattle.run_world.specs.Comes.{world_of}
use Rattle.run_world.proofs.Comes.{ticked}
use Rattle.c_ast.specs.declared.CExtern.{CExtern}
use Rattle.c_ast.specs.declared.CUnit.{CUnit}
use Rattle.c_ast.specs.declared.CExpr.{CExpr}
use Rattle.c_operators.specs.declared.Value.{Value}
use Rattle.c_statements.specs.Parts.{control_of, called_of, Does}
use Rattle.c_statements.specs.Steps.{with_arguments}
use Rattle.c_statements.proofs.Splits.{one_then_next, arguments_split}
use Rattle.c_meaning.specs.Calls.{call, call_found, stop_call, CallResult}
use Rattle.c_meaning.specs.State.{CState, leave, seen}
use Rattle.c_meaning.specs.Statements.{exec_all, call_step}
use Rattle.c_operators.specs.Values.{value_of}
use Rattle.c_expressions.specs.Programs.{program_of}
use Rattle.c_expressions.specs.State.{state_of}
use Rattle.c_run.specs.Calls.{calls_of, weights}
use Rattle.c_run.proofs.Calls.{one_weight}
use Rattle.c_run.proofs.Walks.{block_ends}
use Rattle.c_run.proofs.walk.+walk.Goals as goal

pub block-returns : goal.block-returns
block-returns t c =
    block_ends c.args.program.now c.args.functions.now (stmts_of c.args.body.now) c.args.run.now c.exec_all.new.run c.in_ok-control.control c.len-names.result c.len-objects.result c.leave.new.self c.in_ok-control.ensures c.len-names.ensures
    c.len-objects.ensures c.leave.ensures

pub exec_all-exec-requires : goal.exec_all-exec-requires
exec_all-exec-requires t c =
    (omega (arith, c.decreases, one_weight c.as_slice-stmt-items.result.now c.loop-stmt.stmt-index c.stmt-item.result c.loop-stmt-test.true c.stmt-item.is, ap (λ l. weights (stmts_of l)) c.as_slice-stmt-items.ensures), tt)

pub named_call-function_call-requires : goal.named_call-function_call-requires
named_call-function_call-requires t c = (omega (arith, c.decreases, c.in-Some.ensures.less), tt)

pub named_call-returns-in-Some : goal.named_call-returns-in-Some
named_call-returns-in-Some t c =
    let p = c.args.program.now in
    subst (λ (part : Part CState CallResult). Does p called_of part c.args.run.now c.function_call.new.run c.function_call.result) (sym (c.in-Some.ensures.called (program_of p) (map value_of c.args.values.now))) c.function_call.ensures

pub call_step-returns : goal.call_step-returns
call_step-returns t c =
    let p = c.args.program.now in
    let calls = calls_of (program_of p) c.args.functions.now in
    let es = map expr_of c.args.call.now.args in
    let next = call (program_of p) calls c.args.call.now.name in
    let h = subst (λ (args : List CExpr). Does p (map value_of) (with_arguments (program_of p) (map expr_of args) give) c.args.run.now c.argument_step.new.run (Ok c.in_ok-values.values)) c.as_slice.ensures c.in_ok-values.ensures in
    let k = subst (λ (values : List Value). Does p called_of (next (map value_of values)) c.argument_step.new.run c.called.new.run c.called.result) c.as_slice-2.ensures c.called.ensures in
    one_then_next p called_of (map value_of) (call_step (program_of p) calls (call_of c.args.call.now)) (with_arguments (program_of p) es give) next c.args.run.now c.argument_step.new.run c.called.new.run c.in_ok-values.values c.called.result
    (arguments_split (program_of p) es next) h k

pub turn-returns : goal.turn-returns
turn-returns t c =
    let p = program_of c.args.program.now in
    let run = c.args.run.now in
    let body = block leave (exec_all p (calls_of p c.args.functions.now) (stmts_of c.args.body.now)) in
    ticked (seen p) control_of body c.in_ok-tick.field-0 run.world c.tick.new.self (state_of run.state) c.block.result c.block.new.run.world (state_of c.block.new.run.state) c.in_ok-tick.ensures c.block.ensures

pub forever-loop-preserved : goal.forever-loop-preserved
forever-loop-preserved t c =
    let p = program_of c.args.program.now in
    let run = c.loop.run in
    let body = block leave (exec_all p (calls_of p c.args.functions.now) (stmts_of c.args.body.now)) in
    let most = c.args.run.now.world.steps in
    let less = most - (c.loop.counter + 1) in
    let is : most - c.loop.counter ≡ suc less = omega (arith, c.loop-test.true) in
    let h = subst (λ x. Does c.args.program.now control_of (tick body) run c.turn.new.run (Ok x)) c.in-Falls.is c.in_ok-turn.ensures in
    sym (ap (λ x. after x (again (turns less body))) h) ∙ ap (λ n. turns n body run.world.steps (world_of run.world) (state_of run.state)) (sym is) ∙ c.loop.invariant

pub called-returns-in-Some : goal.called-returns-in-Some
called-returns-in-Some t c =
    let p = program_of c.args.program.now in
    let calls = calls_of p c.args.functions.now in
    let name = c.args.name.now in
    let vs = map value_of c.args.values.now in
    let externs = c.args.program.now.unit.externs in
    let named : List CExtern → Option CExtern = find (λ x. same_word x.name name) in
    let found = c.in-Some.ensures ∙ ap named (c.as_slice.ensures ∙ ap (λ (u : CUnit). u.externs) c.unit.ensures) in
    let same = ap (λ (b : Bool). if b then stop_call p vs else call_found p calls name vs (named externs)) (sym c.is_stop.ensures ∙ c.if-is_stop.false) ∙ ap (λ x. call_found p calls name vs x) (sym found) in
    subst (λ (part : Part CState CallResult). Does c.args.program.now called_of part c.args.run.now c.extern_call.new.run c.extern_call.result) (sym same) c.extern_call.ensures
