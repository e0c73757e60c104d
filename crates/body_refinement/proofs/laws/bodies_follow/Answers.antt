use Rattle.body_refinement.proofs.Wholes.{bodies_follow}
use Rattle.body_refinement.proofs.laws.bodies_follow.Goals as goal

pub returns : goal.returns
returns c = bodies_follow
