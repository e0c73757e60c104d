use Rattle.lowered_surroundings.proofs.Procedures.{procedures_are_set}
use Rattle.lowered_surroundings.proofs.laws.procedures_are_set.Goals as goal

pub returns : goal.returns
returns c = procedures_are_set
