use Rattle.value_fitting.proofs.Arguments.{given_arguments_fit, arguments_fit_parameters}
use Rattle.value_fitting.proofs.laws.given_arguments_fit.Goals as goal

pub returns-clause-types : goal.returns-clause-types
returns-clause-types c = given_arguments_fit

pub returns-clause-parameters : goal.returns-clause-parameters
returns-clause-parameters c = arguments_fit_parameters
