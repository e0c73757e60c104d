use Rattle.area_objects.proofs.Outside as proved
use Rattle.area_objects.proofs.laws.places_hold_cells.Goals as goal

pub returns-clause-read : goal.returns-clause-read
returns-clause-read c = proved.places_read

pub returns-clause-assigned : goal.returns-clause-assigned
returns-clause-assigned c = proved.places_assigned

pub returns-clause-initialized : goal.returns-clause-initialized
returns-clause-initialized c = proved.objects_initialized
