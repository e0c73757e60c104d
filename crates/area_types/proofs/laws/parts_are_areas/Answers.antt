use Rattle.area_types.proofs.Within.{parts_are_areas}
use Rattle.area_types.proofs.laws.parts_are_areas.Goals as goal

pub returns : goal.returns
returns c = parts_are_areas
