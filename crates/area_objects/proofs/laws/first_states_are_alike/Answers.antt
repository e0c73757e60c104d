use Rattle.area_objects.proofs.FirstStates as proved
use Rattle.area_objects.proofs.laws.first_states_are_alike.Goals as goal

pub returns-clause-states : goal.returns-clause-states
returns-clause-states c = proved.first_states_alike

pub returns-clause-numbers : goal.returns-clause-numbers
returns-clause-numbers c = proved.numbers_stand_there
