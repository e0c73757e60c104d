use Rattle.body_refinement.proofs.Statements.{statements_follow}
use Rattle.body_refinement.proofs.laws.statements_follow.Goals as goal

pub returns : goal.returns
returns c = statements_follow
