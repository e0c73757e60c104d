use Rattle.std.proofs.Common.{Option, None, refl, ap, ◌∙◌}
use Rattle.ivory_tree.specs.View.{expr_of}
use Rattle.area_types.specs.Syntax.{ValueType}
use Rattle.rule_faults.specs.Types.{type_of}
use Rattle.rule_faults.specs.Wants.{wanted_type, of_operand}
use Rattle.rule_checker.specs.Contexts.{context_of}
use Rattle.rule_checker.specs.Rows.{least, prefix_rows}
use Rattle.rule_checker.specs.View.{type_seen}
use Rattle.rule_checker.specs.Wanted.{want_at}
use Rattle.rule_checker.proofs.Told.{told_by, same_rule}
use Rattle.rule_checker.proofs.Patterns.{prefix_told}
use Rattle.rule_checker.proofs.forms.prefix_fault.Goals as goal

pub returns : goal.returns
returns c = told_by c.args.span (same_rule (want_at c.args.want) None c.prefix_rule.result c.is_prefix_settled.result (type_seen c.prefix_type.result) c.node_rule-rule.ensures refl c.is_prefix_settled.ensures (c.prefix_type.ensures c.args.span) (c.prefix_rule.ensures ∙ ap (λ (t : Option ValueType). least (prefix_rows c.args.op t (type_seen c.own_type.result))) c.operand_type.ensures ∙ ap (λ (t : Option ValueType). least (prefix_rows c.args.op (type_of (context_of c.args.context.now) (wanted_type (of_operand c.args.op (want_at c.args.want) (expr_of c.args.operand.now))) (expr_of c.args.operand.now)) t)) c.own_type.ensures)) c.at_place.ensures c.requires (prefix_told (context_of c.args.context.now) (want_at c.args.want) c.args.span c.args.op (expr_of c.args.operand.now))
