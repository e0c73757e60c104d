use Rattle.std.proofs.Common.{refl}
use Rattle.iv_script.proofs.laws.examples.Goals as goal

pub returns-clause-read : goal.returns-clause-read
returns-clause-read c = (refl, refl, refl, refl, refl, refl)

pub returns-clause-fit : goal.returns-clause-fit
returns-clause-fit c = (refl, refl, refl, refl, refl)

pub returns-clause-report : goal.returns-clause-report
returns-clause-report c = (refl, refl, refl, refl)
