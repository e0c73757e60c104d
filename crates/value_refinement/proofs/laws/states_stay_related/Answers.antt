use Rattle.value_refinement.proofs.Standings.{related_on}
use Rattle.value_refinement.proofs.laws.states_stay_related.Goals as goal

pub returns : goal.returns
returns c = related_on
