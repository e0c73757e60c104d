use Rattle.std.proofs.Common.{sym}
use Rattle.ivoryc.proofs.ModuleTexts.{keeps_rules, breaks_rule}
use Rattle.ivoryc.proofs.read.keep_rules.Goals as goal

pub returns-in-None : goal.returns-in-None
returns-in-None c = keeps_rules c.args.text.now c.args.tree.now c.requires (sym (rw c.in-None.is at c.in_ok-first_fault.ensures))

pub returns-in-Some : goal.returns-in-Some
returns-in-Some c =
    rw c.broken.ensures (breaks_rule c.args.text.now c.args.tree.now c.in-Some.fault c.requires (sym (rw c.in-Some.is at c.in_ok-first_fault.ensures)))
