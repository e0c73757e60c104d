use Rattle.std.proofs.Common.{◌∙◌, sym, ap, subst, rules}
use Rattle.std.specs.Int.{w128}
use mir.Val.{SFits}
use Rattle.std.proofs.lemmas.Int.{to_z-of_z}
use Rattle.core_meaning.specs.State.{seen}
use Rattle.core_state.specs.State.{value_of}
use Rattle.run_world.specs.Comes.{world_of, Comes}
use Rattle.core_expressions.specs.Forms.{unary_answer}
use Rattle.core_expressions.specs.Operands.{answering_by}
use Rattle.core_expressions.specs.Scopes.{core_in, state_in}
use Rattle.core_expressions.proofs.Values.{by_number}
use Rattle.core_expressions.proofs.operands.answered.Goals as goal

pub returns : goal.returns
returns c =
    let core = core_in c.args.scope.now in
    let s = state_in c.args.scope.now in
    let w = c.args.world.now in
    let checks = c.args.checks.now in
    let a = c.in-Some.a in
    let fits : SFits w128 a = search rules in
    let answer = c.in_ok-answer.ensures ∙ ap (unary_answer c.args.form) (to_z-of_z w128 a fits) in
    subst (λ p. Comes (seen core) value_of p c.answering.result c.answering.new.world s)
    (sym (by_number core w.steps (world_of w) s (value_of c.args.x.now) a (λ b. answering_by core checks (unary_answer c.args.form b)) c.in-Some.ensures ∙ ap (λ x. answering_by core checks x w.steps (world_of w) s) (sym answer)))
    c.answering.ensures
