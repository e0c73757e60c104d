use Rattle.std.proofs.Common.{true, Option, None, refl, ap, ◌∙◌}
use Rattle.ivory_tree.specs.View.{expr_of}
use Rattle.area_types.specs.Syntax.{ValueType}
use Rattle.source_types.specs.Values.{is_bit_data}
use Rattle.rule_faults.specs.Types.{only}
use Rattle.rule_checker.specs.Contexts.{context_of}
use Rattle.rule_checker.specs.Rows.{least, set_rows}
use Rattle.rule_checker.specs.View.{type_seen}
use Rattle.rule_checker.specs.Wanted.{want_at}
use Rattle.rule_checker.proofs.Told.{told_by, same_rule}
use Rattle.rule_checker.proofs.Patterns.{set_told}
use Rattle.rule_checker.proofs.forms.set_fault.Goals as goal

pub returns : goal.returns
returns c = told_by c.args.span (same_rule (want_at c.args.want) None c.set_rule.result true (type_seen c.bit_data_only.result) c.node_rule-rule.ensures refl refl (c.bit_data_only.ensures ∙ ap (λ (t : Option ValueType). only is_bit_data t) c.own_type.ensures) (c.set_rule.ensures ∙ ap (λ (t : Option ValueType). least (set_rows (context_of c.args.context.now).earlier t c.args.field.now.text)) c.own_type-2.ensures)) c.at_place.ensures c.requires (set_told (context_of c.args.context.now) (want_at c.args.want) c.args.span (expr_of c.args.operand.now) c.args.field.now (expr_of c.args.value.now))
