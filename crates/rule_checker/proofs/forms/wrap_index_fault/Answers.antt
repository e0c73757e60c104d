use Rattle.std.proofs.Common.{Bool, true, not, Option, refl, ap, ◌∙◌}
use Rattle.ivory_tree.specs.View.{expr_of}
use Rattle.area_types.specs.Syntax.{ValueType}
use Rattle.rule_checker.specs.Contexts.{context_of}
use Rattle.rule_checker.specs.Rows.{least, one_row, index_rows}
use Rattle.rule_checker.specs.View.{type_seen}
use Rattle.rule_checker.specs.Wanted.{want_at}
use Rattle.rule_checker.proofs.Told.{told_by, same_rule}
use Rattle.rule_checker.proofs.Patterns.{wrap_index_told}
use Rattle.rule_checker.proofs.forms.wrap_index_fault.Goals as goal

pub returns : goal.returns
returns c = told_by c.args.span (same_rule (want_at c.args.want) c.when.result c.index_rule.result true (type_seen c.index_type.result) c.node_rule-rule.ensures (c.when.ensures ∙ ap (λ (b : Bool). least (one_row 8 (not b))) c.is_length.ensures) refl c.index_type.ensures (c.index_rule.ensures ∙ ap (λ (t : Option ValueType). least (index_rows t)) c.own_type.ensures)) c.at_place.ensures c.requires (wrap_index_told (context_of c.args.context.now) (want_at c.args.want) c.args.span c.args.length (expr_of c.args.operand.now))
