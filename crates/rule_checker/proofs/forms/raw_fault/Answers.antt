use Rattle.std.proofs.Common.{true, Option, None, option_and_then, refl, ap, ◌∙◌}
use Rattle.ivory_tree.specs.View.{expr_of}
use Rattle.area_types.specs.Syntax.{ValueType}
use Rattle.source_types.specs.Parts.{word_type}
use Rattle.rule_checker.specs.Contexts.{context_of}
use Rattle.rule_checker.specs.Rows.{least, raw_rows}
use Rattle.rule_checker.specs.View.{type_seen}
use Rattle.rule_checker.specs.Wanted.{want_at}
use Rattle.rule_checker.proofs.Told.{told_by, same_rule}
use Rattle.rule_checker.proofs.Patterns.{raw_told}
use Rattle.rule_checker.proofs.forms.raw_fault.Goals as goal

pub returns : goal.returns
returns c = told_by c.args.span (same_rule (want_at c.args.want) None c.raw_rule.result true (type_seen c.word_of.result) c.node_rule-rule.ensures refl refl (c.word_of.ensures ∙ ap (λ (t : Option ValueType). option_and_then (word_type (context_of c.args.context.now).earlier) t) c.own_type.ensures) (c.raw_rule.ensures ∙ ap (λ (t : Option ValueType). least (raw_rows t)) c.own_type-2.ensures)) c.at_place.ensures c.requires (raw_told (context_of c.args.context.now) (want_at c.args.want) c.args.span (expr_of c.args.operand.now))
