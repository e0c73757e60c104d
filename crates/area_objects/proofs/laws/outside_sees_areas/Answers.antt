use Rattle.area_objects.proofs.Outside as proved
use Rattle.area_objects.proofs.laws.outside_sees_areas.Goals as goal

pub returns-clause-pointers : goal.returns-clause-pointers
returns-clause-pointers c = proved.pointers_show

pub returns-clause-areas : goal.returns-clause-areas
returns-clause-areas c = proved.areas_seen
