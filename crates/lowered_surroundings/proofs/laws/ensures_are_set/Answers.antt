use Rattle.lowered_surroundings.proofs.Procedures.{ensures_are_set, plain_ensures_are_set}
use Rattle.lowered_surroundings.proofs.Staged.{ensures_are_staged}
use Rattle.lowered_surroundings.proofs.laws.ensures_are_set.Goals as goal

pub returns-clause-results : goal.returns-clause-results
returns-clause-results c = ensures_are_set

pub returns-clause-plain : goal.returns-clause-plain
returns-clause-plain c = plain_ensures_are_set

pub returns-clause-staged : goal.returns-clause-staged
returns-clause-staged c = ensures_are_staged
