use Rattle.std.proofs.Common.{None, refl}
use Rattle.ivory_tree.specs.View.{expr_of}
use Rattle.rule_checker.specs.Contexts.{context_of}
use Rattle.rule_checker.specs.View.{type_seen}
use Rattle.rule_checker.specs.Wanted.{want_at}
use Rattle.rule_checker.proofs.Told.{told_by, same_rule}
use Rattle.rule_checker.proofs.Patterns.{cond_told}
use Rattle.rule_checker.proofs.forms.cond_fault.Goals as goal

pub returns : goal.returns
returns c = told_by c.args.span (same_rule (want_at c.args.want) None c.arms_rule.result c.are_settled.result (type_seen c.cond_type.result) c.node_rule-rule.ensures refl c.are_settled.ensures (c.cond_type.ensures c.args.span (expr_of c.args.test.now)) (c.arms_rule.ensures c.args.span (expr_of c.args.test.now))) c.at_place.ensures c.requires (cond_told (context_of c.args.context.now) (want_at c.args.want) c.args.span (expr_of c.args.test.now) (expr_of c.args.first.now) (expr_of c.args.second.now))
