use Rattle.region_check.proofs.Examples.{two_regions_clash, const_is_not_mutable, mutable_is_const}
use Rattle.region_check.proofs.laws.fitting_examples.Goals as goal

pub returns-clause-clash : goal.returns-clause-clash
returns-clause-clash c = two_regions_clash

pub returns-clause-mutable : goal.returns-clause-mutable
returns-clause-mutable c = const_is_not_mutable

pub returns-clause-constant : goal.returns-clause-constant
returns-clause-constant c = mutable_is_const
