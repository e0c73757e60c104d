use Rattle.core_meaning.proofs.Filled.{filled_values_hold}
use Rattle.core_meaning.proofs.laws.filled_values_hold.Goals as goal

pub returns : goal.returns
returns c = filled_values_hold
