use Rattle.std.proofs.Common.{◌≡◌, map, take}
use Rattle.core_tree.specs.Cores.{core_of}
use Rattle.core_tree.specs.View.{area_item_of}
use Rattle.core_meaning.specs.State.{first_area}
use Rattle.core_state.specs.State.{slot_of}
use Rattle.core_run.proofs.start.first_areas.Given as goal

abbrev pub invariant-loop-area : goal.invariant-loop-area
invariant-loop-area l = map slot_of l.slots ≡ map (first_area (core_of l.program)) (map area_item_of (take l.area-index l.area-items))
