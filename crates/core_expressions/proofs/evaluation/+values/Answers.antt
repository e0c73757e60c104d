use Rattle.std.proofs.Common.{◌≡◌, ◌∙◌, true, false, Ok, Err, map, ap, sym, subst}
use Rattle.core_tree.specs.Syntax as syntax
use Rattle.core_tree.specs.Syntax.{Label}
use Rattle.core_tree.specs.View.{expr_of, link_of, step_of, linked, stepped}
use Rattle.core_tree.specs.declared.CoreExpr.{CoreExpr}
use Rattle.core_tree.specs.declared.CoreKind.{CoreKind}
use Rattle.core_tree.proofs.View.{label, expr_with, local_is, area_name_is, cast_is, to_index_is, wrap_index_is, set_field_is, prefix_is, chain_is, postfix_is, cond_is}
use Rattle.ivory_tree.specs.declared.PrefixOp.TheVariants.{Neg, Flip}
use Rattle.core_meaning.specs.Answers.{layout_of}
use Rattle.core_meaning.specs.Expressions.{eval}
use Rattle.core_meaning.specs.State.{State, seen}
use Rattle.core_meaning.specs.Values.{Value}
use Rattle.core_state.specs.State.{value_of}
use Rattle.run_records.specs.declared.Reason.TheVariants.{Dead}
use Rattle.run_world.specs.Comes.{world_of, Comes}
use Rattle.run_world.specs.declared.Halt.TheVariants.{NoMeaning}
use Rattle.run_world.specs.declared.Stopped.TheVariants.{Halted}
use Rattle.step_semantics.specs.Steps.{Progress}
use Rattle.core_expressions.specs.Chains.{chain_from, steps_from, formed}
use Rattle.core_expressions.specs.Operands.{Decided}
use Rattle.core_expressions.specs.Scopes.{core_in, state_in, outcome_in}
use Rattle.core_expressions.proofs.Evaluated.{Says, said_of, set_goes, chain_goes, chain_stops, chain_missing, steps_go, steps_stop, cond_goes, cond_stops}
use Rattle.core_expressions.proofs.evaluation.+values.Goals as goal

-- the label of an expression, and what it is of a form
abbrev own : CoreExpr → Label
own e = label e.ty e.checks

abbrev of_kind : (e : CoreExpr) (k : CoreKind) → e.kind ≡ k → expr_of e ≡ expr_with k e.ty e.checks
of_kind e k is = ap (λ j. expr_with j e.ty e.checks) is

-- ---- names

pub value-returns-in-Local : goal.value-returns-in-Local
value-returns-in-Local t c =
    let x = c.args.scope.now in
    let e = c.args.e.now in
    let w = c.args.world.now in
    said_of (core_in x) (outcome_in x) (state_in x) (expr_of e) (syntax.Local (own e) c.in-Local.name) w w c.read_name.result (of_kind e _ c.in-Local.is ∙ local_is c.in-Local.name e.ty e.checks) (c.read_name.ensures w)

pub value-returns-in-AreaName : goal.value-returns-in-AreaName
value-returns-in-AreaName t c =
    let x = c.args.scope.now in
    let e = c.args.e.now in
    let w = c.args.world.now in
    said_of (core_in x) (outcome_in x) (state_in x) (expr_of e) (syntax.AreaName (own e) c.in-AreaName.area) w w c.read_area.result (of_kind e _ c.in-AreaName.is ∙ area_name_is c.in-AreaName.area e.ty e.checks) (c.read_area.ensures w)

-- ---- conversions and prefixes

pub value-returns-in-Cast : goal.value-returns-in-Cast
value-returns-in-Cast t c =
    let x = c.args.scope.now in
    let e = c.args.e.now in
    let y = c.in-Cast.x in
    said_of (core_in x) (outcome_in x) (state_in x) (expr_of e) (syntax.Cast (own e) (expr_of y)) c.args.world.now c.of_number.new.world c.of_number.result (of_kind e _ c.in-Cast.is ∙ cast_is y e.ty e.checks)
    (rw (c.as_slice-checks.ensures, c.cast_to.ensures, c.get.ensures) at c.of_number.ensures)

pub value-returns-in-ToIx : goal.value-returns-in-ToIx
value-returns-in-ToIx t c =
    let x = c.args.scope.now in
    let e = c.args.e.now in
    let y = c.in-ToIx.x in
    said_of (core_in x) (outcome_in x) (state_in x) (expr_of e) (syntax.ToIndex (own e) (expr_of y)) c.args.world.now c.of_number-in-ToIx.new.world c.of_number-in-ToIx.result (of_kind e _ c.in-ToIx.is ∙ to_index_is y e.ty e.checks)
    (rw (c.as_slice-checks.ensures, c.index_to.ensures, c.get-in-ToIx.ensures) at c.of_number-in-ToIx.ensures)

pub value-returns-in-WrapIx : goal.value-returns-in-WrapIx
value-returns-in-WrapIx t c =
    let x = c.args.scope.now in
    let e = c.args.e.now in
    let y = c.in-WrapIx.x in
    said_of (core_in x) (outcome_in x) (state_in x) (expr_of e) (syntax.WrapIndex (own e) (expr_of y)) c.args.world.now c.of_number-in-WrapIx.new.world c.of_number-in-WrapIx.result (of_kind e _ c.in-WrapIx.is ∙ wrap_index_is y e.ty e.checks)
    (rw (c.as_slice-checks.ensures, c.wrapped_to.ensures, c.get-in-WrapIx.ensures) at c.of_number-in-WrapIx.ensures)

pub value-returns-in-Neg : goal.value-returns-in-Neg
value-returns-in-Neg t c =
    let x = c.args.scope.now in
    let e = c.args.e.now in
    let y = c.in-Prefix.x in
    said_of (core_in x) (outcome_in x) (state_in x) (expr_of e) (syntax.Prefix (own e) Neg (expr_of y)) c.args.world.now c.of_number-in-Neg.new.world c.of_number-in-Neg.result
    (of_kind e _ c.in-Prefix.is ∙ prefix_is c.in-Prefix.op y e.ty e.checks ∙ ap (λ o. syntax.Prefix (own e) o (expr_of y)) c.in-Neg.is)
    (rw (c.as_slice-checks.ensures, c.prefix_operation-form.ensures, c.type_of-in-Neg.ensures, c.get-in-Neg.ensures, c.get-in-Neg-2.ensures) at c.of_number-in-Neg.ensures)

pub value-returns-in-Flip : goal.value-returns-in-Flip
value-returns-in-Flip t c =
    let x = c.args.scope.now in
    let e = c.args.e.now in
    let y = c.in-Prefix.x in
    said_of (core_in x) (outcome_in x) (state_in x) (expr_of e) (syntax.Prefix (own e) Flip (expr_of y)) c.args.world.now c.of_number-in-Flip.new.world c.of_number-in-Flip.result
    (of_kind e _ c.in-Prefix.is ∙ prefix_is c.in-Prefix.op y e.ty e.checks ∙ ap (λ o. syntax.Prefix (own e) o (expr_of y)) c.in-Flip.is)
    (rw (c.as_slice-checks.ensures, c.prefix_operation-form-in-Flip.ensures, c.type_of-in-Flip.ensures, c.get-in-Flip.ensures, c.get-in-Flip-2.ensures) at c.of_number-in-Flip.ensures)

-- ---- `set`

pub value-returns-in-Ok : goal.value-returns-in-Ok
value-returns-in-Ok t c =
    let x = c.args.scope.now in
    let core = core_in x in
    let s = state_in x in
    let e = c.args.e.now in
    let bits = c.in-Set.bits in
    let number = c.in-Set.number in
    let mid = c.value.new.world in
    let laid = c.in-Some.ensures.value ∙ ap (layout_of core) (c.type_of.ensures ∙ ap (λ y. syntax.type_of (expr_of y)) c.get-in-Set.ensures) in
    said_of core (outcome_in x) s (expr_of e) (syntax.SetField (own e) (expr_of bits) c.in-Set.field (expr_of number)) c.args.world.now c.set_in.new.world c.set_in.result
    (of_kind e _ c.in-Set.is ∙ set_field_is bits c.in-Set.field number e.ty e.checks)
    (set_goes core (outcome_in x) s (own e) (expr_of bits) c.in-Set.field (expr_of number) c.in-Some.layout.now c.in-Ok.word c.args.world.now mid c.set_in.new.world c.set_in.result laid (rw c.get-in-Some.ensures at c.in-Ok.ensures)
    ((rw c.as_slice-checks.ensures at c.set_in.ensures) (eval core (outcome_in x) (expr_of number) mid.steps (world_of mid) s) (rw c.get-in-Ok.ensures at c.value-number.ensures)))

-- ---- chains and postfixes

pub value-returns-then-not-formed : goal.value-returns-then-not-formed
value-returns-then-not-formed t c =
    let x = c.args.scope.now in
    let e = c.args.e.now in
    let w = c.args.world.now in
    let first = c.in-Chain.first in
    let ls = map link_of c.in-Chain.links in
    let typed = c.type_of-ty.ensures ∙ ap (λ y. syntax.type_of (expr_of y)) c.get-in-Chain.ensures in
    let missing = ap (λ ty. formed ty ls) (sym typed) ∙ sym c.formed.ensures ∙ c.if-not-formed.true in
    rw c.formless-then-not-formed.ensures
    (said_of (core_in x) (outcome_in x) (state_in x) (expr_of e) (syntax.Whole (own e) (linked (expr_of first) ls)) w w (Err (Halted (NoMeaning Dead))) (of_kind e _ c.in-Chain.is ∙ chain_is first c.in-Chain.links e.ty e.checks)
    (chain_missing (core_in x) (outcome_in x) (state_in x) (own e) (expr_of first) ls w missing))

pub value-returns-in-Err-value : goal.value-returns-in-Err-value
value-returns-in-Err-value t c =
    let x = c.args.scope.now in
    let e = c.args.e.now in
    let w = c.args.world.now in
    let first = c.in-Chain.first in
    let ls = map link_of c.in-Chain.links in
    let typed = c.type_of-ty.ensures ∙ ap (λ y. syntax.type_of (expr_of y)) c.get-in-Chain.ensures in
    let there = ap (λ ty. formed ty ls) (sym typed) ∙ sym c.formed.ensures ∙ c.if-not-formed.false in
    said_of (core_in x) (outcome_in x) (state_in x) (expr_of e) (syntax.Whole (own e) (linked (expr_of first) ls)) w c.value-in-Chain.new.world (Err c.in-Err-value.stopped) (of_kind e _ c.in-Chain.is ∙ chain_is first c.in-Chain.links e.ty e.checks)
    (chain_stops (core_in x) (outcome_in x) (state_in x) (own e) (expr_of first) ls w c.value-in-Chain.new.world c.in-Err-value.stopped there (subst (λ y. Says (core_in x) (outcome_in x) (state_in x) (expr_of y) w (Err c.in-Err-value.stopped) c.value-in-Chain.new.world) c.get-in-Chain-2.ensures c.in-Err-value.ensures))

pub value-returns-in-Ok-value : goal.value-returns-in-Ok-value
value-returns-in-Ok-value t c =
    let x = c.args.scope.now in
    let core = core_in x in
    let s = state_in x in
    let e = c.args.e.now in
    let w = c.args.world.now in
    let first = c.in-Chain.first in
    let ls = map link_of c.in-Chain.links in
    let left = c.in-Ok-value.left in
    let mid = c.value-in-Chain.new.world in
    let typed = c.type_of-ty.ensures ∙ ap (λ y. syntax.type_of (expr_of y)) c.get-in-Chain.ensures in
    let there = ap (λ ty. formed ty ls) (sym typed) ∙ sym c.formed.ensures ∙ c.if-not-formed.false in
    said_of core (outcome_in x) s (expr_of e) (syntax.Whole (own e) (linked (expr_of first) ls)) w c.chain.new.world c.chain.result (of_kind e _ c.in-Chain.is ∙ chain_is first c.in-Chain.links e.ty e.checks)
    (chain_goes core (outcome_in x) s (own e) (expr_of first) ls left w mid c.chain.new.world c.chain.result there (rw c.get-in-Chain-2.ensures at c.in-Ok-value.ensures)
    (subst (λ ty. Comes (seen core) value_of (chain_from core (outcome_in x) (value_of left) ty ls mid.steps (world_of mid) s) c.chain.result c.chain.new.world s) typed c.chain.ensures))

pub value-returns-in-Err-value-2 : goal.value-returns-in-Err-value-2
value-returns-in-Err-value-2 t c =
    let x = c.args.scope.now in
    let e = c.args.e.now in
    let w = c.args.world.now in
    let base = c.in-Postfix.base in
    let ts = map step_of c.in-Postfix.steps in
    said_of (core_in x) (outcome_in x) (state_in x) (expr_of e) (syntax.Whole (own e) (stepped (expr_of base) ts)) w c.value-in-Postfix.new.world (Err c.in-Err-value-2.stopped) (of_kind e _ c.in-Postfix.is ∙ postfix_is base c.in-Postfix.steps e.ty e.checks)
    (steps_stop (core_in x) (outcome_in x) (state_in x) (own e) (expr_of base) ts w c.value-in-Postfix.new.world c.in-Err-value-2.stopped (subst (λ y. Says (core_in x) (outcome_in x) (state_in x) (expr_of y) w (Err c.in-Err-value-2.stopped) c.value-in-Postfix.new.world) c.get-in-Postfix.ensures c.in-Err-value-2.ensures))

pub value-returns-in-Ok-value-2 : goal.value-returns-in-Ok-value-2
value-returns-in-Ok-value-2 t c =
    let x = c.args.scope.now in
    let core = core_in x in
    let s = state_in x in
    let e = c.args.e.now in
    let w = c.args.world.now in
    let base = c.in-Postfix.base in
    let ts = map step_of c.in-Postfix.steps in
    let whole = c.in-Ok-value-2.whole in
    let mid = c.value-in-Postfix.new.world in
    let typed = c.type_of-in-Ok-value-2.ensures ∙ ap (λ y. syntax.type_of (expr_of y)) c.get-in-Ok-value-2.ensures in
    said_of core (outcome_in x) s (expr_of e) (syntax.Whole (own e) (stepped (expr_of base) ts)) w c.postfix.new.world c.postfix.result (of_kind e _ c.in-Postfix.is ∙ postfix_is base c.in-Postfix.steps e.ty e.checks)
    (steps_go core (outcome_in x) s (own e) (expr_of base) ts whole w mid c.postfix.new.world c.postfix.result (rw c.get-in-Postfix.ensures at c.in-Ok-value-2.ensures)
    (subst (λ ty. Comes (seen core) value_of (steps_from core (outcome_in x) (value_of whole) ty ts mid.steps (world_of mid) s) c.postfix.result c.postfix.new.world s) typed c.postfix.ensures))

-- ---- `?:`

pub value-returns-in-Err-decided : goal.value-returns-in-Err-decided
value-returns-in-Err-decided t c =
    let x = c.args.scope.now in
    let core = core_in x in
    let s = state_in x in
    let e = c.args.e.now in
    let w = c.args.world.now in
    let test = c.in-Cond.test in
    let said : Progress State Value = eval core (outcome_in x) (expr_of test) w.steps (world_of w) s in
    said_of core (outcome_in x) s (expr_of e) (syntax.Cond (own e) (expr_of test) (expr_of c.in-Cond.first) (expr_of c.in-Cond.second)) w c.decided.new.world (Err c.in-Err-decided.stopped)
    (of_kind e _ c.in-Cond.is ∙ cond_is test c.in-Cond.first c.in-Cond.second e.ty e.checks)
    (cond_stops core (outcome_in x) s (own e) (expr_of test) (expr_of c.in-Cond.first) (expr_of c.in-Cond.second) w c.decided.new.world c.in-Err-decided.stopped (c.in-Err-decided.ensures core s said (rw c.get-in-Cond.ensures at c.value-test.ensures)))

pub value-returns-in-Ok-true : goal.value-returns-in-Ok-true
value-returns-in-Ok-true t c =
    let x = c.args.scope.now in
    let core = core_in x in
    let s = state_in x in
    let e = c.args.e.now in
    let w = c.args.world.now in
    let test = c.in-Cond.test in
    let r = c.value-in-Ok-true.result in
    let u = c.value-in-Ok-true.new.world in
    let mid = c.decided.new.world in
    let said : Progress State Value = eval core (outcome_in x) (expr_of test) w.steps (world_of w) s in
    let goes = subst (λ b. Decided core said s (Ok b) mid) c.in-Ok-true.field-0-test (c.in-Ok-true.ensures core s said (rw c.get-in-Cond.ensures at c.value-test.ensures)) in
    said_of core (outcome_in x) s (expr_of e) (syntax.Cond (own e) (expr_of test) (expr_of c.in-Cond.first) (expr_of c.in-Cond.second)) w u r (of_kind e _ c.in-Cond.is ∙ cond_is test c.in-Cond.first c.in-Cond.second e.ty e.checks)
    (cond_goes core (outcome_in x) s (own e) (expr_of test) (expr_of c.in-Cond.first) (expr_of c.in-Cond.second) true w mid u r goes (rw c.get-in-Ok-true.ensures at c.value-in-Ok-true.ensures))

pub value-returns-in-Ok-false : goal.value-returns-in-Ok-false
value-returns-in-Ok-false t c =
    let x = c.args.scope.now in
    let core = core_in x in
    let s = state_in x in
    let e = c.args.e.now in
    let w = c.args.world.now in
    let test = c.in-Cond.test in
    let r = c.value-in-Ok-false.result in
    let u = c.value-in-Ok-false.new.world in
    let mid = c.decided.new.world in
    let said : Progress State Value = eval core (outcome_in x) (expr_of test) w.steps (world_of w) s in
    let goes = subst (λ b. Decided core said s (Ok b) mid) c.in-Ok-false.field-0-test (c.in-Ok-false.ensures core s said (rw c.get-in-Cond.ensures at c.value-test.ensures)) in
    said_of core (outcome_in x) s (expr_of e) (syntax.Cond (own e) (expr_of test) (expr_of c.in-Cond.first) (expr_of c.in-Cond.second)) w u r (of_kind e _ c.in-Cond.is ∙ cond_is test c.in-Cond.first c.in-Cond.second e.ty e.checks)
    (cond_goes core (outcome_in x) s (own e) (expr_of test) (expr_of c.in-Cond.first) (expr_of c.in-Cond.second) false w mid u r goes (rw c.get-in-Ok-false.ensures at c.value-in-Ok-false.ensures))
