use Rattle.body_refinement.proofs.Allocs.{allocs_follow_all}
use Rattle.body_refinement.proofs.laws.allocs_follow.Goals as goal

pub returns : goal.returns
returns c = allocs_follow_all
