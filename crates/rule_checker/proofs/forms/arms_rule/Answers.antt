use Rattle.rule_checker.proofs.Told.{same_arms}
use Rattle.rule_checker.proofs.forms.arms_rule.Goals as goal

pub returns : goal.returns
returns c = λ s test. same_arms c.cond_rule.ensures c.is_settled.ensures c.is_settled-2.ensures c.own_type.ensures c.own_type-2.ensures (c.cond_type.ensures s test)
