use Rattle.std.proofs.Common.{◌≡◌, map, nat_eq, sym, ◌∙◌}
use Rattle.std.proofs.lemmas.Result.{IfOk-weaker, on_ok_weaker}
use Rattle.ivory_tree.specs.View.{expr_of, link_of, step_of}
use Rattle.rule_checker.specs.View.{type_at}
use Rattle.typing_rules.specs.ExpressionCores.{number_or, local_number, name_core, core_of}
use Rattle.typing_rules.specs.Environments.{area_number}
use Rattle.core_maker.specs.Chains.{with_links}
use Rattle.core_maker.specs.Postfixes.{form_by}
use Rattle.core_maker.specs.Forms.{form_of}
use Rattle.check_numbers.specs.Numbered.{expr_from}
use Rattle.core_maker.specs.Opened.{alone, based, closed, kept, first_of, opened}
use Rattle.core_maker.specs.Places.{env_of}
use Rattle.core_maker.proofs.Begun.{kept_first, chain_given, postfix_given, variable_given}
use Rattle.core_maker.proofs.expressions.+cores.Goals as goal

pub first_part-returns-clause-form : goal.first_part-returns-clause-form
first_part-returns-clause-form t c =
    let env = env_of c.args.place.now in
    let w = type_at c.args.want in
    let n = c.args.next.now in
    let e = c.args.e.now in
    IfOk-weaker c.keep.result (λ f. form_of f ≡ kept (nat_eq c.args.span.start e.span.start) (form_of c.in_ok-part.part) (closed (form_of c.in_ok-part.part))) (λ f. form_of f ≡ first_of c.args.span (expr_of e) (expr_from n (core_of env w (expr_of e)))) (λ f is. is ∙ kept_first env w n c.args.span e c.in_ok-part.ensures.form) c.keep.ensures

pub open_core-returns-then-has_links-clause-form : goal.open_core-returns-then-has_links-clause-form
open_core-returns-then-has_links-clause-form t c =
    let env = env_of c.args.place.now in
    let w = type_at c.args.want in
    let n = c.args.next.now in
    let e = c.args.e.now in
    let both = chain_given env w n e c.in-Chain.first c.in-Chain.links c.in-Chain.is (sym c.has_links.ensures ∙ c.if-has_links.true) c.get-first.ensures c.before_links-before.ensures.settled c.before_links-before.ensures.own c.before_links-before.ensures.lead
    c.in_ok-left-in-Chain.ensures.form c.in_ok-left-in-Chain.ensures.after in
    IfOk-weaker c.add_links.result (λ f. form_of f ≡ with_links env w c.before_links-before.result.settled (type_at c.before_links-before.result.own) c.first_part.new.next (form_of c.in_ok-left-in-Chain.left) (map link_of c.in-Chain.links)) (λ f. form_of f ≡ opened (expr_of e) (expr_from n (core_of env w (expr_of e)))) (λ f is. is ∙ both.0) c.add_links.ensures.form

pub open_core-returns-then-has_links-clause-after : goal.open_core-returns-then-has_links-clause-after
open_core-returns-then-has_links-clause-after t c =
    let env = env_of c.args.place.now in
    let w = type_at c.args.want in
    let n = c.args.next.now in
    let e = c.args.e.now in
    let both = chain_given env w n e c.in-Chain.first c.in-Chain.links c.in-Chain.is (sym c.has_links.ensures ∙ c.if-has_links.true) c.get-first.ensures c.before_links-before.ensures.settled c.before_links-before.ensures.own c.before_links-before.ensures.lead
    c.in_ok-left-in-Chain.ensures.form c.in_ok-left-in-Chain.ensures.after in
    on_ok_weaker c.add_links.result (λ is. is ∙ both.1) c.add_links.ensures.after

pub open_core-returns-then-has_steps-clause-form : goal.open_core-returns-then-has_steps-clause-form
open_core-returns-then-has_steps-clause-form t c =
    let env = env_of c.args.place.now in
    let w = type_at c.args.want in
    let n = c.args.next.now in
    let e = c.args.e.now in
    let both = postfix_given env w n e c.in-Postfix.operand c.in-Postfix.steps c.in-Postfix.is (sym c.has_steps.ensures ∙ c.if-has_steps.true) c.get-operand.ensures c.own-then-has_steps.ensures
    c.in_ok-left-in-Postfix.ensures.form c.in_ok-left-in-Postfix.ensures.after in
    IfOk-weaker c.add_steps.result (λ f. form_of f ≡ form_by env (map step_of c.in-Postfix.steps) (type_at c.own-then-has_steps.result) c.first_part-then-has_steps.new.next (based (form_of c.in_ok-left-in-Postfix.left))) (λ f. form_of f ≡ opened (expr_of e) (expr_from n (core_of env w (expr_of e)))) (λ f is. is ∙ both.0) c.add_steps.ensures.form

pub open_core-returns-then-has_steps-clause-after : goal.open_core-returns-then-has_steps-clause-after
open_core-returns-then-has_steps-clause-after t c =
    let env = env_of c.args.place.now in
    let w = type_at c.args.want in
    let n = c.args.next.now in
    let e = c.args.e.now in
    let both = postfix_given env w n e c.in-Postfix.operand c.in-Postfix.steps c.in-Postfix.is (sym c.has_steps.ensures ∙ c.if-has_steps.true) c.get-operand.ensures c.own-then-has_steps.ensures
    c.in_ok-left-in-Postfix.ensures.form c.in_ok-left-in-Postfix.ensures.after in
    on_ok_weaker c.add_steps.result (λ is. is ∙ both.1) c.add_steps.ensures.after

pub open_core-returns-in-Var-clause-form : goal.open_core-returns-in-Var-clause-form
open_core-returns-in-Var-clause-form t c =
    let env = env_of c.args.place.now in
    let w = type_at c.args.want in
    let n = c.args.next.now in
    let e = c.args.e.now in
    IfOk-weaker c.variable.result (λ f. form_of f ≡ alone (name_core (type_at c.own-in-Var.result) (local_number env c.in-Var.name) (number_or (area_number env.earlier c.in-Var.name)))) (λ f. form_of f ≡ opened (expr_of e) (expr_from n (core_of env w (expr_of e)))) (λ f is. is ∙ variable_given env w n e c.in-Var.name c.in-Var.is c.own-in-Var.ensures) c.variable.ensures
