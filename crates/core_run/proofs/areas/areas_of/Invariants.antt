use Rattle.std.proofs.Common.{◌≡◌, ◌++◌, map, drop}
use Rattle.std.specs.List.{zip}
use Rattle.core_tree.specs.View.{area_item_of}
use Rattle.core_meaning.specs.State.{seen_as}
use Rattle.core_state.specs.State.{slot_of}
use Rattle.core_run.proofs.areas.areas_of.Given as goal

abbrev pub invariant-loop-k : goal.invariant-loop-k
invariant-loop-k l = l.seen ++ map seen_as (zip (map area_item_of (drop l.k l.areas)) (map slot_of (drop l.k l.slots))) ≡ map seen_as (zip (map area_item_of l.areas) (map slot_of l.slots))
