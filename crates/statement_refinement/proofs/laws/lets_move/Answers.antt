use Rattle.statement_refinement.proofs.Movements.{lets_move}
use Rattle.statement_refinement.proofs.laws.lets_move.Goals as goal

pub returns : goal.returns
returns c = lets_move
