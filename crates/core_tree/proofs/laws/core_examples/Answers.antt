use Rattle.core_tree.proofs.Examples.{own_stays}
use Rattle.core_tree.proofs.laws.core_examples.Goals as goal

pub returns-clause-own : goal.returns-clause-own
returns-clause-own c = own_stays
