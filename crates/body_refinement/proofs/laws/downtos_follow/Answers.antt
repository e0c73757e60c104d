use Rattle.body_refinement.proofs.Counting.{downto_follows}
use Rattle.body_refinement.proofs.laws.downtos_follow.Goals as goal

pub returns : goal.returns
returns c = downto_follows
