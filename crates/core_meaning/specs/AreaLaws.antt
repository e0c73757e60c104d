-- What changes in the map of areas, and what stays.
use Rattle.std.specs.Prelude.{◌≡◌, ◌≢◌, ℕ, ◌≤◌, ◌<◌, List, slice_get, Some, None}
use Rattle.core_meaning.specs.Areas.{Held, Areas, type_at, held_at, put_at, mark_from, take_from}

-- a part to which a path leads holds what is put there, and no other area changes
abbrev pub PartsHoldWhatIsPut : Type 0
PartsHoldWhatIsPut = (areas : Areas) (k : ℕ) (path : List ℕ) (held v : Held) → held_at areas k path ≡ Some held → held_at (put_at k path v areas) k path ≡ Some v

abbrev pub OthersStay : Type 0
OthersStay = (areas : Areas) (k : ℕ) (path : List ℕ) (v : Held) (j : ℕ) → j ≢ k → slice_get (put_at k path v areas) j ≡ slice_get areas j

-- no area changes its type
abbrev pub TypesStay : Type 0
TypesStay = (areas : Areas) (k : ℕ) (path : List ℕ) (v : Held) (j : ℕ) (part : List ℕ) → type_at (put_at k path v areas) j part ≡ type_at areas j part

-- a marked area is what it was
abbrev pub MarkedAreasStay : Type 0
MarkedAreasStay = (areas : Areas) (k j : ℕ) (part : List ℕ) → (type_at (mark_from k areas) j part ≡ type_at areas j part) × (held_at (mark_from k areas) j part ≡ held_at areas j part)

-- of areas that are taken out of the map there is no part, and those before them stay
abbrev pub TakenAreasAreGone : Type 0
TakenAreasAreGone = (areas : Areas) (k j : ℕ) (part : List ℕ) → k ≤ j → type_at (take_from k areas) j part ≡ None

abbrev pub EarlierAreasStay : Type 0
EarlierAreasStay = (areas : Areas) (k j : ℕ) → j < k → slice_get (take_from k areas) j ≡ slice_get areas j
