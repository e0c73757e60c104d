use Rattle.std.proofs.Common.{ℕ, ap, ◌∙◌}
use Rattle.rule_checker.specs.Contexts.{context_of}
use Rattle.rule_checker.specs.Rows.{least}
use Rattle.rule_checker.specs.Starts.{many_rows}
use Rattle.rule_checker.specs.View.{area_seen}
use Rattle.rule_checker.proofs.Told.{told_by}
use Rattle.rule_checker.proofs.Started.{many_told}
use Rattle.rule_checker.proofs.inits.many_fault.Goals as goal

pub returns : goal.returns
returns c =
    told_by c.args.span (c.many_rule.ensures ∙ ap (λ (n : ℕ). least (many_rows (context_of c.args.context.now).earlier (area_seen c.args.area) n)) c.len.ensures) c.at_place.ensures c.requires
    (many_told (context_of c.args.context.now) c.args.global (area_seen c.args.area) c.args.span c.args.inits.now)
