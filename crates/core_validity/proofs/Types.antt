-- Types that a value may have in a core, where so many region parameters are known.
use Rattle.std.proofs.Common.{◌≡◌, ℕ, ℤ, List, [], ◌∷◌, length, Bool, true, false, cond, ◌&&◌, ◌||◌, IsTrue, Some, None, refl, ap, arith, nat_le, le-leb}
use Rattle.std.specs.Prelude.{nat_lt}
use Rattle.area_types.specs.Syntax as types
use Rattle.area_types.specs.Syntax.{ValueType, Area}
use Rattle.area_types.specs.Tables.{Table, is_length, is_stored, is_made_of, is_area, is_small, has_index_length, has_index_lengths, written_out}
use Rattle.area_types.specs.declared.region.Region.{Region}
use Rattle.area_types.specs.declared.region.Region.TheVariants.{Global, Param, Own}
use Rattle.iv_words.specs.declared.IntKind.{IntKind}
use Rattle.type_trees.specs.Trees.{Many, levels, part}
use Rattle.type_trees.specs.Layouts.{size}
use Rattle.type_trees.proofs.Parts.{inside, levels_within}
use Rattle.area_types.specs.Sizes.{metric}
use Rattle.area_types.specs.Trees.{Written}
use Rattle.area_types.proofs.Truths.{both, also, is_at_most, below_is}
use Rattle.region_check.specs.Calls.{reference_of}
use Rattle.source_types.specs.Values.{is_plain, is_index_type, holds}
use Rattle.core_tree.specs.Types.{is_core_area, is_type, is_value}
use Rattle.core_tree.specs.TypedItems.{is_local_type}

-- ---- types

-- the module's region, one of so many parameters, or that of the procedure itself
abbrev pub RegionIn : ℕ → Region → Type 0
RegionIn n Global = Unit {0}
RegionIn n (Param j) = IsTrue (nat_lt j n)
RegionIn n Own = Unit {0}

abbrev pub Usable : Table → ℕ → ValueType → Type 0
Usable table n types.Truth = Unit {0}
Usable table n (types.Int kind) = Unit {0}
Usable table n (types.Ix m) = IsTrue (is_length m)
Usable table n (types.Bits k) = IsTrue (nat_lt k (length table.words))
Usable table n (types.Ref c r a) = RegionIn n r × IsTrue (is_core_area table a)

or_left : (a b : Bool) → IsTrue a → IsTrue (a || b)
or_left true b h = refl
or_left false b h = absurd (cc)

pub usable_local : (table : Table) (n : ℕ) (t : ValueType) → Usable table n t → IsTrue (is_local_type table n t)
usable_local table n types.Truth u = refl
usable_local table n (types.Int kind) u = refl
usable_local table n (types.Ix m) u = or_left (is_length m) false u
usable_local table n (types.Bits k) u = or_left (nat_lt k (length table.words)) false u
usable_local table n (types.Ref c Global a) u = or_left (is_core_area table a) false u.1
usable_local table n (types.Ref c (Param j) a) u = or_left (nat_lt j n && is_core_area table a) false (also (nat_lt j n) (is_core_area table a) u.0 u.1)
usable_local table n (types.Ref c Own a) u = u.1

pub type_usable : (table : Table) (n : ℕ) (t : ValueType) → IsTrue (is_type table n t) → Usable table n t
type_usable table n types.Truth h = tt
type_usable table n (types.Int kind) h = tt
type_usable table n (types.Ix m) h = h
type_usable table n (types.Bits k) h = h
type_usable table n (types.Ref c Global a) h = (tt, h)
type_usable table n (types.Ref c (Param j) a) h = both (nat_lt j n) (is_core_area table a) h
type_usable table n (types.Ref c Own a) h = absurd (cc)

-- what is no reference does not ask how many regions there are
pub value_usable : (table : Table) (k n : ℕ) (t : ValueType) → reference_of t ≡ None → Usable table k t → Usable table n t
value_usable table k n types.Truth e u = tt
value_usable table k n (types.Int kind) e u = tt
value_usable table k n (types.Ix m) e u = u
value_usable table k n (types.Bits j) e u = u
value_usable table k n (types.Ref c r a) e u = absurd (cc)

-- ---- areas

pub record AreaParts (table : Table) (a : Area) : Type 0 where
  pub of_table : IsTrue (is_made_of (length table.structs) (length table.words) a)
  pub small : IsTrue (is_small table.words (written_out table a))
  pub lengths : IsTrue (has_index_lengths a)

pub area_parts : (table : Table) (a : Area) → IsTrue (is_core_area table a) → AreaParts table a
area_parts table a h =
    let p = both (is_area table a) (has_index_lengths a) h in
    let q = both (is_made_of (length table.structs) (length table.words) a) (is_small table.words (written_out table a)) p.0 in
    record { of_table = q.0; small = q.1; lengths = p.1 }

pub area_of_parts : (table : Table) (a : Area) → AreaParts table a → IsTrue (is_core_area table a)
area_of_parts table a p =
    also (is_area table a) (has_index_lengths a) (also (is_made_of (length table.structs) (length table.words) a) (is_small table.words (written_out table a)) p.of_table p.small) p.lengths

pub stored_usable : (table : Table) (n : ℕ) (t : ValueType) → IsTrue (is_stored (length table.words) t) → IsTrue (has_index_length t) → Usable table n t
stored_usable table n types.Truth h k = tt
stored_usable table n (types.Int kind) h k = tt
stored_usable table n (types.Ix m) h k = k
stored_usable table n (types.Bits j) h k = h
stored_usable table n (types.Ref c r a) h k = absurd (cc)

-- what is stored in an area of the table
pub held_usable : (table : Table) (n : ℕ) (t : ValueType) → IsTrue (is_core_area table (types.Stored t)) → Usable table n t
held_usable table n t h = let p = area_parts table (types.Stored t) h in stored_usable table n t p.of_table p.lengths

-- an element is no larger than its array, and has fewer levels
small_element : (words : List IntKind) (n : ℕ) (a : Written) → IsTrue (is_length n) → IsTrue (is_small words (Many n a)) → IsTrue (is_small words a)
small_element words n a l h =
    let m = metric words in
    let p = both (nat_le (size m (Many n a)) 65_535) (nat_le (levels (Many n a)) 32) h in
    let first : part (Many n a) (0 ∷ []) ≡ Some a = ap (λ b. cond b (Some a) None) (below_is 0 n (is_at_most 1 n (both (nat_le 1 n) (nat_le n 65_535) l).0)) in
    also (nat_le (size m a) 65_535) (nat_le (levels a) 32)
    (le-leb (size m a) 65_535 (omega (arith, inside m (Many n a) (0 ∷ []) a first, is_at_most (size m (Many n a)) 65_535 p.0)))
    (le-leb (levels a) 32 (omega (arith, levels_within (Many n a) (0 ∷ []) a first, is_at_most (levels (Many n a)) 32 p.1)))

pub element_area : (table : Table) (n : ℕ) (a : Area) → IsTrue (is_core_area table (types.Array n a)) → IsTrue (is_core_area table a)
element_area table n a h =
    let p = area_parts table (types.Array n a) h in
    let q = both (is_length n) (is_made_of (length table.structs) (length table.words) a) p.of_table in
    area_of_parts table a (record { of_table = q.1; small = small_element table.words n (written_out table a) q.0 p.small; lengths = p.lengths })

-- ---- numbers

-- a number that a type holds is a value of it
pub record NumberHeld (table : Table) (t : ValueType) (v : ℤ) : Type 0 where
  pub form : IsTrue (is_plain t || is_index_type t)
  pub type : IsTrue (is_type table 0 t)
  pub value : IsTrue (is_value table t v)

pub number_held : (table : Table) (n : ℕ) (t : ValueType) (v : ℤ) → Usable table n t → IsTrue (holds t v) → NumberHeld table t v
number_held table n types.Truth v u h = absurd (cc)
number_held table n (types.Int kind) v u h = record { form = refl; type = refl; value = h }
number_held table n (types.Ix m) v u h = record { form = refl; type = u; value = h }
number_held table n (types.Bits k) v u h = absurd (cc)
number_held table n (types.Ref c r a) v u h = absurd (cc)
