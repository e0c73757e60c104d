use Rattle.std.proofs.Common.{◌∙◌, sym, ap, subst, rules}
use Rattle.std.specs.Int.{w128}
use mir.Val.{SFits}
use Rattle.std.proofs.lemmas.Int.{to_z-of_z}
use Rattle.bit_data.specs.Fields.{field_of}
use Rattle.step_semantics.specs.Steps.{give, tick}
use Rattle.area_types.specs.View.{type_of}
use Rattle.core_meaning.specs.Checks.{on_some}
use Rattle.core_meaning.specs.Expressions.{field_behind}
use Rattle.core_meaning.specs.State.{seen}
use Rattle.core_meaning.specs.Values.{Num}
use Rattle.core_state.specs.State.{value_of}
use Rattle.run_world.specs.Comes.{world_of, Comes}
use Rattle.core_expressions.specs.Scopes.{core_in, state_in}
use Rattle.core_expressions.proofs.reads.field_of.Goals as goal

pub returns-in_ok-v-in-Num : goal.returns-in_ok-v-in-Num
returns-in_ok-v-in-Num c =
    let core = core_in c.args.scope.now in
    let s = state_in c.args.scope.now in
    let w = c.args.world.now in
    let r = c.number.result in
    let u = c.number.new.world in
    let word = c.in-Num.word in
    let layout = c.in-Some.layout.now in
    let fits : SFits w128 word = search rules in
    let fits' : SFits w128 c.in_ok-v-in-Num.v = search rules in
    let v = to_z-of_z w128 c.in_ok-v-in-Num.v fits' ∙ c.in_ok-v-in-Num.ensures ∙ ap (field_of layout c.args.field) (to_z-of_z w128 word fits) in
    subst (λ x. Comes (seen core) value_of (field_behind core (type_of c.args.ty.now) c.args.field (value_of x) w.steps (world_of w) s) r u s) (sym c.in-Num.is)
    (subst (λ l. Comes (seen core) value_of (on_some core l (λ x. tick (give (Num (field_of x c.args.field word)))) w.steps (world_of w) s) r u s) c.in-Some.ensures.value
    (subst (λ z. Comes (seen core) value_of (tick (give (Num z)) w.steps (world_of w) s) r u s) v c.number.ensures))
