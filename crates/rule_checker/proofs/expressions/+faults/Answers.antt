use Rattle.std.proofs.Common.{map, ap, sym, ◌∙◌}
use Rattle.ivory_tree.specs.View.{expr_of, link_of}
use Rattle.ivory_tree.specs.Syntax.{Bare}
use Rattle.ivory_tree.specs.declared.expr.Expr.{Expr}
use Rattle.source_types.specs.Settled.{settled}
use Rattle.rule_faults.specs.Contexts as contexts
use Rattle.rule_faults.specs.ExpressionRows.{expr_row}
use Rattle.rule_faults.specs.FirstFault.{first_of}
use Rattle.rule_faults.specs.Wants as wanting
use Rattle.rule_faults.specs.Types as typing
use Rattle.rule_checker.specs.Contexts.{context_of}
use Rattle.rule_checker.specs.Links.{next_want}
use Rattle.rule_checker.specs.Wanted.{want_at}
use Rattle.rule_checker.proofs.Chained.{chain_then, chain_else, postfix_then, postfix_else}
use Rattle.rule_checker.proofs.expressions.+faults.Goals as goal

pub expression_fault-returns-then-has_links : goal.expression_fault-returns-then-has_links
expression_fault-returns-then-has_links t c =
    let x : contexts.Context = context_of c.args.context.now in
    let w : wanting.Want = want_at c.args.want in
    let start = c.start_of-start.result in
    c.chain_fault.ensures
    ∙ chain_then x w c.args.e.now c.in-Chain.first c.in-Chain.links c.in-Chain.is (sym c.has_links.ensures ∙ c.if-has_links.true)
    c.start_of-start.ensures.lead
    (c.start_of-start.ensures.lead_type ∙ ap (λ (b : Expr). typing.type_of x (wanting.wanted_type (want_at start.lead)) (expr_of b)) c.get-first.ensures)
    (c.start_of-start.ensures.settled ∙ ap (λ (b : Expr). settled (expr_of b)) c.get-first.ensures)
    (c.start_of-start.ensures.own ∙ ap (λ (b : Expr). typing.own_type x (expr_of b)) c.get-first.ensures)
    (c.expression_fault-within-then-has_links.ensures
    ∙ ap (λ (v : wanting.Want). first_of (expr_row x v (expr_of c.get-first.result.now))) c.start_of-start.ensures.want
    ∙ ap (λ (b : Expr). first_of (expr_row x (next_want x w (want_at start.lead) start.settled (map link_of c.in-Chain.links)) (expr_of b))) c.get-first.ensures)

pub expression_fault-returns-else-has_links : goal.expression_fault-returns-else-has_links
expression_fault-returns-else-has_links t c =
    let x : contexts.Context = context_of c.args.context.now in
    let w : wanting.Want = want_at c.args.want in
    c.bare_fault.ensures
    ∙ ap (λ (b : Expr). first_of (expr_row x w (Bare c.args.e.now.span (expr_of b)))) c.get-first.ensures
    ∙ chain_else x w c.args.e.now c.in-Chain.first c.in-Chain.links c.in-Chain.is (sym c.has_links.ensures ∙ c.if-has_links.false)

pub expression_fault-returns-then-has_steps : goal.expression_fault-returns-then-has_steps
expression_fault-returns-then-has_steps t c =
    let x : contexts.Context = context_of c.args.context.now in
    let w : wanting.Want = want_at c.args.want in
    c.steps_fault.ensures
    ∙ postfix_then x w c.args.e.now c.in-Postfix.base c.in-Postfix.steps c.in-Postfix.is (sym c.has_steps.ensures ∙ c.if-has_steps.true)
    (c.own_type-own.ensures ∙ ap (λ (b : Expr). typing.own_type x (expr_of b)) c.get-base.ensures)
    (c.expression_fault-within-then-has_steps.ensures ∙ ap (λ (b : Expr). first_of (expr_row x wanting.Nothing (expr_of b))) c.get-base.ensures)

pub expression_fault-returns-else-has_steps : goal.expression_fault-returns-else-has_steps
expression_fault-returns-else-has_steps t c =
    let x : contexts.Context = context_of c.args.context.now in
    let w : wanting.Want = want_at c.args.want in
    c.bare_fault-in-Postfix.ensures
    ∙ ap (λ (b : Expr). first_of (expr_row x w (Bare c.args.e.now.span (expr_of b)))) c.get-base.ensures
    ∙ postfix_else x w c.args.e.now c.in-Postfix.base c.in-Postfix.steps c.in-Postfix.is (sym c.has_steps.ensures ∙ c.if-has_steps.false)
