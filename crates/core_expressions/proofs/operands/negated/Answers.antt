use Rattle.std.proofs.Common.{◌∙◌, sym, subst, rules}
use Rattle.std.specs.Int.{w128}
use mir.Val.{SFits}
use Rattle.std.proofs.lemmas.Int.{to_z-of_z}
use Rattle.std.specs.Prelude.{not}
use Rattle.int_ops.specs.Operators.{truth}
use Rattle.step_semantics.specs.Steps.{give, tick}
use Rattle.core_meaning.specs.State.{seen}
use Rattle.core_meaning.specs.Values.{Num}
use Rattle.core_state.specs.State.{value_of}
use Rattle.run_world.specs.Comes.{world_of, Comes}
use Rattle.core_expressions.specs.Scopes.{core_in, state_in}
use Rattle.core_expressions.proofs.Values.{by_truth, byte_is}
use Rattle.core_expressions.proofs.operands.negated.Goals as goal

pub returns : goal.returns
returns c =
    let core = core_in c.args.scope.now in
    let s = state_in c.args.scope.now in
    let w = c.args.world.now in
    let fits : SFits w128 c.from.result = search rules in
    let v = to_z-of_z w128 c.from.result fits ∙ c.from.ensures ∙ byte_is (not c.in-Some.holds) in
    subst (λ p. Comes (seen core) value_of p c.number.result c.number.new.world s)
    (sym (by_truth core w.steps (world_of w) s (value_of c.args.x.now) c.in-Some.holds (λ holds. tick (give (Num (truth (not holds))))) c.in-Some.ensures))
    (subst (λ z. Comes (seen core) value_of (tick (give (Num z)) w.steps (world_of w) s) c.number.result c.number.new.world s) v c.number.ensures)
