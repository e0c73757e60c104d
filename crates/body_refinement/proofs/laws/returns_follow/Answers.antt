use Rattle.body_refinement.proofs.Returns.{returns_follow}
use Rattle.body_refinement.proofs.laws.returns_follow.Goals as goal

pub returns : goal.returns
returns c = returns_follow
