use Rattle.value_fitting.proofs.States.{results_are_known, no_result_is_known}
use Rattle.value_fitting.proofs.laws.results_are_known.Goals as goal

pub returns-clause-results : goal.returns-clause-results
returns-clause-results c = results_are_known

pub returns-clause-none : goal.returns-clause-none
returns-clause-none c = no_result_is_known
