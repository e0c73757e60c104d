use Rattle.std.proofs.Common.{◌∙◌, sym, ap, subst, rules, Some}
use Rattle.std.specs.Prelude.{Option, ℤ}
use Rattle.std.specs.Option.{option_and_then}
use Rattle.std.specs.Int.{w128}
use mir.Val.{SFits}
use Rattle.std.proofs.lemmas.Int.{to_z-of_z}
use Rattle.step_semantics.specs.Steps.{give, tick, by_state}
use Rattle.core_meaning.specs.Areas.{held_at, number_at, number_in}
use Rattle.core_meaning.specs.Checks.{on_some, on_reference}
use Rattle.core_meaning.specs.State.{seen}
use Rattle.core_meaning.specs.Values.{Value, Num}
use Rattle.core_state.specs.State.{value_of}
use Rattle.core_state.specs.Types.{held_of}
use Rattle.core_state.proofs.Views.{cell_is}
use Rattle.run_world.specs.Comes.{world_of, Comes}
use Rattle.core_expressions.specs.Scopes.{core_in, state_in}
use Rattle.core_expressions.proofs.reads.cell.Goals as goal

pub returns-in-Cell : goal.returns-in-Cell
returns-in-Cell c =
    let core = core_in c.args.scope.now in
    let w = c.args.world.now in
    let r = c.number.result in
    let u = c.number.new.world in
    let s = state_in c.args.scope.now in
    let v = c.in-Cell.v in
    let fits : SFits w128 v = search rules in
    let there = ap (option_and_then number_in) (ap Some (sym (ap held_of c.in-Cell.is ∙ cell_is v)) ∙ c.in-Some.ensures ∙ ap (held_at s.areas c.in-Ref.area) c.as_slice.ensures) in
    subst (λ x. Comes (seen core) value_of (on_reference core (value_of x) (λ k path. by_state (λ t. on_some core (number_at t.areas k path) (λ z. tick (give (Num z))))) w.steps (world_of w) s) r u s) (sym c.in-Ref.is)
    (subst (λ (o : Option ℤ). Comes (seen core) value_of (on_some {B = Value} core o (λ z. tick (give (Num z))) w.steps (world_of w) s) r u s) there
    (subst (λ z. Comes (seen core) value_of (tick (give (Num z)) w.steps (world_of w) s) r u s) (to_z-of_z w128 v fits) c.number.ensures))
