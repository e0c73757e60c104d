use Rattle.overflow_checks.proofs.Checked.{stops_are_checks}
use Rattle.overflow_checks.proofs.laws.check_laws.Goals as goal

pub returns : goal.returns
returns c = stops_are_checks
