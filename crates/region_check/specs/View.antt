-- What a reference type of the code says.
use Rattle.area_types.specs.View.{area_of}
use Rattle.area_types.specs.declared.area.RefType.{RefType}
use Rattle.region_check.specs.Calls.{Reference}

abbrev pub reference_in : RefType → Reference
reference_in r = record { constant = r.constant; region = r.region; area = area_of r.area }
