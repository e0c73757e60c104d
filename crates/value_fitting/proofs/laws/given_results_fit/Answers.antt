use Rattle.value_fitting.proofs.Arguments.{given_results_fit}
use Rattle.value_fitting.proofs.laws.given_results_fit.Goals as goal

pub returns : goal.returns
returns c = given_results_fit
