use Rattle.std.proofs.Common.{Bool, true, Option, Some, None, refl, ap, ◌∙◌}
use Rattle.ivory_tree.specs.View.{expr_of}
use Rattle.area_types.specs.Syntax as types
use Rattle.area_types.specs.Syntax.{ValueType}
use Rattle.source_types.specs.Settled.{settled}
use Rattle.rule_checker.specs.Contexts.{context_of}
use Rattle.rule_checker.specs.Rows.{least, cast_rows}
use Rattle.rule_checker.specs.View.{type_seen}
use Rattle.rule_checker.specs.Wanted.{want_at}
use Rattle.rule_checker.proofs.Told.{told_by, same_rule}
use Rattle.rule_checker.proofs.Patterns.{cast_told}
use Rattle.rule_checker.proofs.forms.cast_fault.Goals as goal

pub returns : goal.returns
returns c = told_by c.args.span (same_rule (want_at c.args.want) None c.cast_rule.result true (Some (types.Int c.args.kind)) c.node_rule-rule.ensures refl refl refl (c.cast_rule.ensures ∙ ap (λ (b : Bool). least (cast_rows b (type_seen c.own_type.result))) c.is_settled.ensures ∙ ap (λ (t : Option ValueType). least (cast_rows (settled (expr_of c.args.operand.now)) t)) c.own_type.ensures)) c.at_place.ensures c.requires (cast_told (context_of c.args.context.now) (want_at c.args.want) c.args.span c.args.kind (expr_of c.args.operand.now))
