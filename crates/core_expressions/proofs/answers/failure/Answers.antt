use Rattle.std.proofs.Common.{ap}
use Rattle.std.proofs.lemmas.Result.{err_from_is_err_and}
use Rattle.step_semantics.specs.Steps.{FailedCheck, halt, tick}
use Rattle.core_meaning.specs.State.{State, seen}
use Rattle.core_meaning.specs.Values.{Value}
use Rattle.core_state.specs.State.{value_of}
use Rattle.run_world.specs.Comes.{world_of}
use Rattle.run_world.proofs.Comes.{not_ticked}
use Rattle.core_expressions.specs.Scopes.{core_in, state_in}
use Rattle.core_expressions.proofs.answers.failure.Goals as goal

pub returns-in_err-tick : goal.returns-in_err-tick
returns-in_err-tick c =
    let p = err_from_is_err_and c.from_residual.result c.from_residual.ensures.1 in
    let see = seen (core_in c.args.scope.now) in
    rw (p.1, p.2) (not_ticked (Unit {0}) see value_of (halt see (FailedCheck c.args.site)) c.in_err-tick.field-0.0 c.args.world.now c.tick.new.self (state_in c.args.scope.now) c.in_err-tick.ensures)

pub returns : goal.returns
returns c =
    let see = seen (core_in c.args.scope.now) in
    ap (λ w. tick {S = State} {A = Value} (halt see (FailedCheck c.args.site)) w.steps (world_of w) (state_in c.args.scope.now)) c.in_ok-tick.ensures
