use Rattle.statement_refinement.proofs.Moves.{states_move_on}
use Rattle.statement_refinement.proofs.laws.states_move.Goals as goal

pub returns : goal.returns
returns c = states_move_on
