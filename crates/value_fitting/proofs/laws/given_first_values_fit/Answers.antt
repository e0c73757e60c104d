use Rattle.value_fitting.proofs.Inits.{given_first_values_fit}
use Rattle.value_fitting.proofs.laws.given_first_values_fit.Goals as goal

pub returns : goal.returns
returns c = given_first_values_fit
