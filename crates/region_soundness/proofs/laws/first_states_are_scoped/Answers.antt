use Rattle.region_soundness.proofs.First.{first_states_are_scoped}
use Rattle.region_soundness.proofs.laws.first_states_are_scoped.Goals as goal

-- src/laws.rt:1:1
pub returns : goal.returns
returns c = first_states_are_scoped
