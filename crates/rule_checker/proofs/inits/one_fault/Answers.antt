use Rattle.std.proofs.Common.{ap, ◌∙◌}
use Rattle.ivory_tree.specs.View.{expr_of}
use Rattle.rule_faults.specs.ExpressionRows.{expr_row}
use Rattle.rule_faults.specs.FirstFault.{first_of}
use Rattle.rule_faults.specs.Wants as wanting
use Rattle.rule_checker.specs.Contexts.{context_of}
use Rattle.rule_checker.specs.View.{area_seen}
use Rattle.rule_checker.proofs.Told.{told_by}
use Rattle.rule_checker.proofs.Started.{one_at}
use Rattle.rule_checker.proofs.inits.one_fault.Goals as goal

pub returns : goal.returns
returns c =
    told_by c.args.e.now.span c.one_rule.ensures c.at_place.ensures
    (c.expression_fault-within.ensures ∙ ap (λ (v : wanting.Want). first_of (expr_row (context_of c.args.context.now) v (expr_of c.args.e.now))) c.of_cell.ensures)
    (one_at (context_of c.args.context.now) c.args.global (area_seen c.args.area) c.args.e.now)
