use Rattle.body_refinement.proofs.Counting.{map_follows}
use Rattle.body_refinement.proofs.laws.maps_follow.Goals as goal

pub returns : goal.returns
returns c = map_follows
