use Rattle.type_trees.proofs.Multiples.{up_least}
use Rattle.type_trees.proofs.laws.members_stand_least.Goals as goal

pub returns : goal.returns
returns c = up_least
