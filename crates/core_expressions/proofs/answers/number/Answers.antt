use Rattle.std.proofs.Common.{ap, sym, ◌∙◌}
use Rattle.std.specs.Int.{w128}
use Rattle.std.proofs.lemmas.Int.{to_z-of_z}
use Rattle.std.proofs.lemmas.Result.{err_from_is_err_and}
use Rattle.step_semantics.specs.Steps.{Finished, give, tick}
use Rattle.core_meaning.specs.State.{State, seen}
use Rattle.core_meaning.specs.Values.{Num}
use Rattle.core_state.specs.State.{value_of}
use Rattle.run_world.specs.Comes.{world_of}
use Rattle.run_world.proofs.Comes.{not_ticked}
use Rattle.core_expressions.specs.Scopes.{core_in, state_in}
use Rattle.core_expressions.proofs.answers.number.Goals as goal

pub returns-in_err-tick : goal.returns-in_err-tick
returns-in_err-tick c =
    let p = err_from_is_err_and c.from_residual.result c.from_residual.ensures.1 in
    rw (p.1, p.2) (not_ticked (Unit {0}) (seen (core_in c.args.scope.now)) value_of (give (Num c.args.v)) c.in_err-tick.field-0.0 c.args.world.now c.tick.new.self (state_in c.args.scope.now) c.in_err-tick.ensures)

pub returns : goal.returns
returns c =
    let s = state_in c.args.scope.now in
    ap (λ w. tick {S = State} (give (Num c.args.v)) w.steps (world_of w) s) c.in_ok-tick.ensures ∙ ap (λ v. Finished (Num v) (world_of c.tick.new.self) s c.tick.new.self.steps) (sym (to_z-of_z w128 c.args.v c.ranges.v))
