use Rattle.overflow_checks.proofs.Given.{names_stand_for}
use Rattle.overflow_checks.proofs.laws.name_laws.Goals as goal

pub returns : goal.returns
returns c = names_stand_for
