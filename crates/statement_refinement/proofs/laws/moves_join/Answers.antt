use Rattle.statement_refinement.proofs.Movements.{moves_join}
use Rattle.statement_refinement.proofs.laws.moves_join.Goals as goal

pub returns : goal.returns
returns c = moves_join
