use Rattle.overflow_checks.proofs.Checked as checked
use Rattle.overflow_checks.proofs.laws.refused_guards.Goals as goal

pub returns : goal.returns
returns c = checked.refused_guards
