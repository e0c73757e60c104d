-- Types of values in a core: which there are, which numbers they have, and when one fits another.
use Rattle.std.specs.Prelude.{◌≡◌, ℕ, ℤ, pos, ◌-ℤ◌, nat_lt, int_le, Bool, true, false, ◌&&◌, length, slice_get, Option, Some, None, IsTrue}
use Rattle.iv_words.specs.declared.kind.IntKind.{IntKind}
use Rattle.iv_words.specs.Kinds.{least, greatest, in_range}
use Rattle.index_types.specs.Indices.{is_index}
use Rattle.area_types.specs.Syntax.{ValueType, Truth, Int, Ix, Bits, Ref, Area}
use Rattle.area_types.specs.Tables.{Table, is_length, is_area, has_index_lengths}
use Rattle.area_types.specs.declared.region.Region.{Region}
use Rattle.area_types.specs.declared.region.Region.TheVariants.{Global, Param, Own}
use Rattle.region_check.specs.Calls.{may_stand_for}

-- ---- areas and types

-- an area of the table; each index in it has a length from 1 to 65,535
abbrev pub is_core_area : Table → Area → Bool
is_core_area table area = is_area table area && has_index_lengths area

-- a type of a value; its region is the module's or one of so many region parameters
abbrev pub is_region : (regions : ℕ) → Region → Bool
is_region regions Global = true
is_region regions (Param j) = nat_lt j regions
is_region regions Own = false

abbrev pub is_type : Table → (regions : ℕ) → ValueType → Bool
is_type table regions Truth = true
is_type table regions (Int kind) = true
is_type table regions (Ix n) = is_length n
is_type table regions (Bits k) = nat_lt k (length table.words)
is_type table regions (Ref constant region area) = is_region regions region && is_core_area table area

-- ---- numbers

abbrev pub is_word : Option IntKind → ℤ → Bool
is_word None v = false
is_word (Some word) v = in_range word v

-- the number is a value of the type: a truth is 0 or 1, bit data are their word
abbrev pub is_value : Table → ValueType → ℤ → Bool
is_value table Truth v = is_index 2 v
is_value table (Int kind) v = in_range kind v
is_value table (Ix n) v = is_index n v
is_value table (Bits k) v = is_word (slice_get table.words k) v
is_value table (Ref constant region area) v = false

-- each value of the type is one of the kind
abbrev pub has_values_of : IntKind → ValueType → Bool
has_values_of kind (Int from) = int_le (least kind) (least from) && int_le (greatest from) (greatest kind)
has_values_of kind (Ix n) = int_le (pos n -ℤ pos 1) (greatest kind)
has_values_of kind _ = false

-- each number of the kind is an index of the length
abbrev pub has_indices_of : ℕ → IntKind → Bool
has_indices_of n kind = is_index n (least kind) && is_index n (greatest kind)

-- ---- fitting

-- A type fits where it is the wanted one, and a mutable reference also where a const one of the same region and area is wanted.
abbrev pub Fits : (wanted given : ValueType) → Type 0
Fits Truth given = given ≡ Truth
Fits (Int kind) given = given ≡ Int kind
Fits (Ix n) given = given ≡ Ix n
Fits (Bits k) given = given ≡ Bits k
Fits (Ref c r a) Truth = ⊥
Fits (Ref c r a) (Int kind) = ⊥
Fits (Ref c r a) (Ix n) = ⊥
Fits (Ref c r a) (Bits k) = ⊥
Fits (Ref c r a) (Ref d s b) = (s ≡ r) × (b ≡ a) × IsTrue (may_stand_for d c)
