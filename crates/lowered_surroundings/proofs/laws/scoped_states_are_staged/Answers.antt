use Rattle.lowered_surroundings.proofs.Staged.{scoped_states_are_staged}
use Rattle.lowered_surroundings.proofs.laws.scoped_states_are_staged.Goals as goal

pub returns : goal.returns
returns c = scoped_states_are_staged
