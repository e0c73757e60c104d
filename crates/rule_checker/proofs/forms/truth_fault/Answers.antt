use Rattle.std.proofs.Common.{true, Some, None, refl}
use Rattle.area_types.specs.Syntax as types
use Rattle.area_types.specs.Syntax.{ValueType}
use Rattle.rule_checker.specs.Wanted.{want_at}
use Rattle.rule_checker.proofs.Told.{told_by, same_rule}
use Rattle.rule_checker.proofs.Patterns.{truth_told}
use Rattle.rule_checker.proofs.forms.truth_fault.Goals as goal

pub returns : goal.returns
returns c = λ x. told_by c.args.span (same_rule (want_at c.args.want) None None true (Some types.Truth) c.node_rule-rule.ensures refl refl refl refl) c.at_place.ensures refl (truth_told x (want_at c.args.want) c.args.span c.args.value)
