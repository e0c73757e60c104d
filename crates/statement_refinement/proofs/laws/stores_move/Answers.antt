use Rattle.statement_refinement.proofs.Movements.{stores_move}
use Rattle.statement_refinement.proofs.laws.stores_move.Goals as goal

pub returns : goal.returns
returns c = stores_move
