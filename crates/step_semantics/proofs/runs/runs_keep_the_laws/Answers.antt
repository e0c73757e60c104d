-- The laws of the entry calls are those of the run's outcomes.
use Rattle.step_semantics.proofs.RunLaws.{run_outcomes}
use Rattle.step_semantics.proofs.runs.runs_keep_the_laws.Goals as goal

pub returns : goal.returns
returns g c = λ see body first script lawful. run_outcomes see body lawful first script
