use Rattle.std.proofs.Common.{ap, sym, ◌∙◌}
use Rattle.std.proofs.lemmas.Result.{on_ok_weaker}
use Rattle.core_tree.specs.declared.CoreKind.TheVariants as expr
use Rattle.contract_checks.proofs.Parts.{chain_checks, postfix_checks, cond_checks, three}
use Rattle.contract_checks.proofs.exprs.+exprs.Goals as goal

pub add_expr-returns-in_ok-add_links-in-Chain : goal.add_expr-returns-in_ok-add_links-in-Chain
add_expr-returns-in_ok-add_links-in-Chain t c =
    on_ok_weaker c.add_all.result (λ last. three c.args.found.now c.add_expr-in-Chain.new.found c.add_links.new.found c.add_all.new.found _ _ _ _ c.in_ok-add_expr-in-Chain.ensures c.in_ok-add_links-in-Chain.ensures last (chain_checks c.args.e.now c.deref-in-Chain.result.now c.in-Chain.links (c.in-Chain.is ∙ ap (λ x. expr.Chain x c.in-Chain.links) (sym c.deref-in-Chain.ensures)))) c.add_all.ensures

pub add_expr-returns-in_ok-add_steps-in-Postfix : goal.add_expr-returns-in_ok-add_steps-in-Postfix
add_expr-returns-in_ok-add_steps-in-Postfix t c =
    on_ok_weaker c.add_all-in-Postfix.result (λ last. three c.args.found.now c.add_expr-in-Postfix.new.found c.add_steps.new.found c.add_all-in-Postfix.new.found _ _ _ _ c.in_ok-add_expr-in-Postfix.ensures c.in_ok-add_steps-in-Postfix.ensures last (postfix_checks c.args.e.now c.deref-in-Postfix.result.now c.in-Postfix.steps (c.in-Postfix.is ∙ ap (λ x. expr.Postfix x c.in-Postfix.steps) (sym c.deref-in-Postfix.ensures)))) c.add_all-in-Postfix.ensures

pub add_expr-returns-in_ok-add_form-in-Cond : goal.add_expr-returns-in_ok-add_form-in-Cond
add_expr-returns-in_ok-add_form-in-Cond t c =
    on_ok_weaker c.add_expr-in-Cond-2.result (λ last. three c.args.found.now c.add_expr-in-Cond.new.found c.add_form-in-Cond.new.found c.add_expr-in-Cond-2.new.found _ _ _ _ c.in_ok-add_expr-in-Cond.ensures c.in_ok-add_form-in-Cond.ensures last (cond_checks c.args.e.now c.deref-in-Cond.result.now c.deref-in-Cond-2.result.now c.deref-in-Cond-3.result.now (c.in-Cond.is ∙ ap (λ x. expr.Cond x c.in-Cond.first c.in-Cond.second) (sym c.deref-in-Cond.ensures) ∙ ap (λ x. expr.Cond c.deref-in-Cond.result.now x c.in-Cond.second) (sym c.deref-in-Cond-2.ensures) ∙ ap (λ x. expr.Cond c.deref-in-Cond.result.now c.deref-in-Cond-2.result.now x) (sym c.deref-in-Cond-3.ensures)))) c.add_expr-in-Cond-2.ensures
