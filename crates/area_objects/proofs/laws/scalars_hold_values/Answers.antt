use Rattle.area_objects.proofs.Scalars as proved
use Rattle.area_objects.proofs.laws.scalars_hold_values.Goals as goal

pub returns-clause-numbers : goal.returns-clause-numbers
returns-clause-numbers c = proved.numbers_can_be_held

pub returns-clause-values : goal.returns-clause-values
returns-clause-values c = proved.values_can_be_held
