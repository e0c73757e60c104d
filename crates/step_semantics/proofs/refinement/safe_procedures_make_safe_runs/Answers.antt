-- Each entry call has a meaning, from whatever state the one before it left.
use Rattle.step_semantics.proofs.Safety.{run_always_safe}
use Rattle.step_semantics.proofs.refinement.safe_procedures_make_safe_runs.Goals as goal

pub returns : goal.returns
returns g c = λ see body first script safe. run_always_safe see body safe first script
