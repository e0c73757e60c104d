use Rattle.std.proofs.Common.{Bool, true, not, None, refl, ap, ◌∙◌}
use Rattle.rule_checker.specs.Contexts.{context_of}
use Rattle.rule_checker.specs.Rows.{least, one_row}
use Rattle.rule_checker.specs.View.{type_seen}
use Rattle.rule_checker.specs.Wanted.{want_at}
use Rattle.rule_checker.proofs.Told.{told_by, same_rule}
use Rattle.rule_checker.proofs.Patterns.{variable_told}
use Rattle.rule_checker.proofs.forms.variable_fault.Goals as goal

pub returns : goal.returns
returns c = told_by c.args.span (same_rule (want_at c.args.want) c.when.result None true (type_seen c.name_type.result) c.node_rule-rule.ensures (c.when.ensures ∙ ap (λ (b : Bool). least (one_row 4 (not b))) c.is_known.ensures) refl c.name_type.ensures refl) c.at_place.ensures refl (variable_told (context_of c.args.context.now) (want_at c.args.want) c.args.span c.args.name.now)
