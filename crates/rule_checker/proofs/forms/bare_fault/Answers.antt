use Rattle.std.proofs.Common.{None, refl}
use Rattle.ivory_tree.specs.View.{expr_of}
use Rattle.rule_checker.specs.Contexts.{context_of}
use Rattle.rule_checker.specs.View.{type_seen}
use Rattle.rule_checker.specs.Wanted.{want_at}
use Rattle.rule_checker.proofs.Told.{told_by, same_rule}
use Rattle.rule_checker.proofs.Patterns.{bare_told}
use Rattle.rule_checker.proofs.forms.bare_fault.Goals as goal

pub returns : goal.returns
returns c = told_by c.args.span (same_rule (want_at c.args.want) None None c.is_settled.result (type_seen c.own_type.result) c.node_rule-rule.ensures refl c.is_settled.ensures c.own_type.ensures refl) c.at_place.ensures c.requires (bare_told (context_of c.args.context.now) (want_at c.args.want) c.args.span (expr_of c.args.operand.now))
