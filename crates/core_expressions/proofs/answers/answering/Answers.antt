use Rattle.std.proofs.Common.{sym, subst, rules}
use Rattle.std.specs.Int.{w128}
use mir.Val.{SFits}
use Rattle.std.proofs.lemmas.Int.{to_z-of_z}
use Rattle.step_semantics.specs.Steps.{tick, give}
use Rattle.core_meaning.specs.State.{seen}
use Rattle.core_meaning.specs.Values.{Num}
use Rattle.core_state.specs.State.{value_of}
use Rattle.run_world.specs.Comes.{world_of, Comes}
use Rattle.core_expressions.specs.Scopes.{core_in, state_in}
use Rattle.core_expressions.proofs.Answering.{answers_number, answers_failure, answers_nothing}
use Rattle.core_expressions.proofs.answers.answering.Goals as goal

pub returns-in-Ok : goal.returns-in-Ok
returns-in-Ok c =
    let core = core_in c.args.scope.now in
    let s = state_in c.args.scope.now in
    let w = c.args.world.now in
    let fits : SFits w128 c.in-Ok.v = search rules in
    subst (λ p. Comes (seen core) value_of p c.number.result c.number.new.world s) (sym (answers_number core c.args.checks.now w.steps (world_of w) s c.args.answer.now c.in-Ok.v c.in-Ok.is))
    (subst (λ z. Comes (seen core) value_of (tick (give (Num z)) w.steps (world_of w) s) c.number.result c.number.new.world s) (to_z-of_z w128 c.in-Ok.v fits) c.number.ensures)

pub returns-in-Some : goal.returns-in-Some
returns-in-Some c =
    let core = core_in c.args.scope.now in
    let s = state_in c.args.scope.now in
    let w = c.args.world.now in
    subst (λ p. Comes (seen core) value_of p c.failure.result c.failure.new.world s)
    (sym (answers_failure core c.args.checks.now w.steps (world_of w) s c.args.answer.now c.in-Err.kind c.in-Some.site c.in-Err.is (sym c.in-Some.ensures))) c.failure.ensures

pub returns-in-None : goal.returns-in-None
returns-in-None c =
    let core = core_in c.args.scope.now in
    let s = state_in c.args.scope.now in
    let w = c.args.world.now in
    rw c.formless.ensures (answers_nothing core c.args.checks.now w.steps (world_of w) s c.args.answer.now c.in-Err.kind c.in-Err.is (sym c.in-None.ensures))
