use Rattle.std.proofs.Common.{false, None, refl}
use Rattle.rule_checker.specs.Wanted.{want_at}
use Rattle.rule_checker.proofs.Told.{told_by, same_rule}
use Rattle.rule_checker.proofs.Patterns.{literal_told}
use Rattle.rule_checker.proofs.forms.literal_fault.Goals as goal

pub returns : goal.returns
returns c = λ x. told_by c.args.span (same_rule (want_at c.args.want) None c.literal_rule.result false None c.node_rule-rule.ensures refl refl refl c.literal_rule.ensures) c.at_place.ensures refl (literal_told x (want_at c.args.want) c.args.span c.args.value.now)
