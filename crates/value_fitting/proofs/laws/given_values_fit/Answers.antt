use Rattle.value_fitting.proofs.Expressions.{given_values_fit}
use Rattle.value_fitting.proofs.laws.given_values_fit.Goals as goal

pub returns : goal.returns
returns c = given_values_fit
