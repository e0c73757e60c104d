use Rattle.std.proofs.Common.{◌∙◌, sym, ap, subst, rules}
use Rattle.std.specs.Int.{w128}
use mir.Val.{SFits, to_z, of_z}
use Rattle.std.proofs.lemmas.Int.{to_z-of_z}
use Rattle.core_meaning.specs.Checks.{on_number}
use Rattle.core_meaning.specs.State.{seen}
use Rattle.core_state.specs.State.{value_of}
use Rattle.run_world.specs.Comes.{world_of, Comes}
use Rattle.core_expressions.specs.Forms.{binary_answer}
use Rattle.core_expressions.specs.Operands.{answering_by}
use Rattle.core_expressions.specs.Scopes.{core_in, state_in}
use Rattle.core_expressions.proofs.Values.{by_number}
use Rattle.core_expressions.proofs.operands.operated.Goals as goal

pub returns : goal.returns
returns c =
    let core = core_in c.args.scope.now in
    let s = state_in c.args.scope.now in
    let w = c.args.world.now in
    let checks = c.args.checks.now in
    let form = binary_answer c.args.form in
    let a = c.in-Some.a in
    let b = c.in-Some-number_in.b in
    let fits : SFits w128 a = search rules in
    let fits' : SFits w128 b = search rules in
    let answer = c.in_ok-answer.ensures ∙ ap (λ x. form x (to_z w128 (of_z w128 b))) (to_z-of_z w128 a fits) ∙ ap (form a) (to_z-of_z w128 b fits') in
    subst (λ p. Comes (seen core) value_of p c.answering.result c.answering.new.world s)
    (sym (by_number core w.steps (world_of w) s (value_of c.args.x.now) a (λ x. on_number core (value_of c.args.y.now) (λ y. answering_by core checks (form x y))) c.in-Some.ensures
    ∙ by_number core w.steps (world_of w) s (value_of c.args.y.now) b (λ y. answering_by core checks (form a y)) c.in-Some-number_in.ensures
    ∙ ap (λ x. answering_by core checks x w.steps (world_of w) s) (sym answer)))
    c.answering.ensures
