-- The areas of a module with what they hold, from a place on.
use Rattle.std.proofs.Common.{◌≡◌, ◌≤◌, ℕ, List, [], ◌∷◌, length, map, drop, min, refl, ap, arith}
use Rattle.std.specs.List.{zip}
use Rattle.std.proofs.lemmas.List.{length-map, length-drop}
use Rattle.core_tree.specs.View.{area_item_of}
use Rattle.core_tree.specs.declared.CoreArea.{CoreArea}
use Rattle.core_meaning.specs.State.{seen_as}
use Rattle.core_state.specs.State.{slot_of}
use Rattle.core_state.specs.declared.Slot.{Slot}

none_zipped : {A B : Type 0} (xs : List A) (ys : List B) → min (length xs) (length ys) ≡ 0 → zip xs ys ≡ []
none_zipped [] [] h = refl
none_zipped [] (y ∷ ys) h = refl
none_zipped (x ∷ xs) [] h = refl
none_zipped (x ∷ xs) (y ∷ ys) h = absurd (omega arith)

pub seen_end : (areas : List CoreArea) (slots : List Slot) (k : ℕ) → min (length areas) (length slots) ≤ k → map seen_as (zip (map area_item_of (drop k areas)) (map slot_of (drop k slots))) ≡ []
seen_end areas slots k h =
    ap (map seen_as) (none_zipped (map area_item_of (drop k areas)) (map slot_of (drop k slots))
    (omega (arith, h, length-map (drop k areas) area_item_of, length-map (drop k slots) slot_of, length-drop k areas, length-drop k slots)))
