use Rattle.std.proofs.Common.{map, None, Option, ap, sym, ◌∙◌}
use Rattle.ivory_tree.specs.View.{expr_of, step_of}
use Rattle.ivory_tree.specs.declared.expr.Expr.{Expr}
use Rattle.area_types.specs.Syntax.{ValueType}
use Rattle.rule_faults.specs.Types.{type_of}
use Rattle.rule_checker.specs.Chains.{steps_type}
use Rattle.rule_checker.specs.Contexts.{context_of}
use Rattle.rule_checker.specs.View.{type_seen}
use Rattle.rule_checker.proofs.Linked.{chain_has_type, postfix_type_then, postfix_type_else}
use Rattle.rule_checker.proofs.typing.+typing.Goals as goal

pub type_of-returns-in-Chain : goal.type_of-returns-in-Chain
type_of-returns-in-Chain t c =
    let h = chain_has_type (context_of c.args.context.now) (type_seen c.args.wanted) c.args.e.now c.in-Chain.first c.in-Chain.links c.in-Chain.is in
    cc

pub type_of-returns-then-has_steps : goal.type_of-returns-then-has_steps
type_of-returns-then-has_steps t c =
    c.steps_type.ensures
    ∙ ap (λ (u : Option ValueType). steps_type (context_of c.args.context.now) u (map step_of c.in-Postfix.steps)) c.type_of-t-then-has_steps.ensures
    ∙ ap (λ (b : Expr). steps_type (context_of c.args.context.now) (type_of (context_of c.args.context.now) None (expr_of b)) (map step_of c.in-Postfix.steps)) c.deref-then-has_steps.ensures
    ∙ sym (postfix_type_then (context_of c.args.context.now) (type_seen c.args.wanted) c.args.e.now c.in-Postfix.base c.in-Postfix.steps c.in-Postfix.is (sym c.has_steps.ensures ∙ c.if-has_steps.true))

pub type_of-returns-else-has_steps : goal.type_of-returns-else-has_steps
type_of-returns-else-has_steps t c =
    c.type_of-in-Postfix.ensures
    ∙ ap (λ (b : Expr). type_of (context_of c.args.context.now) (type_seen c.args.wanted) (expr_of b)) c.deref-in-Postfix.ensures
    ∙ sym (postfix_type_else (context_of c.args.context.now) (type_seen c.args.wanted) c.args.e.now c.in-Postfix.base c.in-Postfix.steps c.in-Postfix.is (sym c.has_steps.ensures ∙ c.if-has_steps.false))
