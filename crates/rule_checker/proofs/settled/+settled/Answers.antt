use Rattle.std.proofs.Common.{sym, ◌∙◌}
use Rattle.rule_checker.proofs.Linked.{chain_is_settled, postfix_settled_then, postfix_settled_else}
use Rattle.rule_checker.proofs.settled.+settled.Goals as goal

pub is_settled-returns-in-Chain : goal.is_settled-returns-in-Chain
is_settled-returns-in-Chain t c = let h = chain_is_settled c.args.e.now c.in-Chain.first c.in-Chain.links c.in-Chain.is in cc

pub is_settled-returns-then-has_steps : goal.is_settled-returns-then-has_steps
is_settled-returns-then-has_steps t c = sym (postfix_settled_then c.args.e.now c.in-Postfix.base c.in-Postfix.steps c.in-Postfix.is (sym c.has_steps.ensures ∙ c.if-has_steps.true))

pub is_settled-returns-else-has_steps : goal.is_settled-returns-else-has_steps
is_settled-returns-else-has_steps t c =
    let h = postfix_settled_else c.args.e.now c.in-Postfix.base c.in-Postfix.steps c.in-Postfix.is (sym c.has_steps.ensures ∙ c.if-has_steps.false) in
    cc
