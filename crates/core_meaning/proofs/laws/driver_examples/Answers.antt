use Rattle.core_meaning.proofs.Driver.{driver_goes}
use Rattle.core_meaning.proofs.laws.driver_examples.Goals as goal

pub returns : goal.returns
returns c = driver_goes
