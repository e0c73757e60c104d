use Rattle.area_objects.proofs.Alike as proved
use Rattle.area_objects.proofs.laws.objects_hold_areas.Goals as goal

pub returns : goal.returns
returns c = proved.objects_hold_areas
