-- Kinds of value types, as the tables of operators and of rules name them, and when two types are equal.
use Rattle.std.specs.Prelude.{Bool, true, false, ◌&&◌, ◌||◌, not, nat_eq, nat_le, if◌then◌else◌, ℕ, ℤ}
use Rattle.iv_words.specs.declared.IntKind.{IntKind}
use Rattle.iv_words.specs.declared.IntKind.TheVariants.{U8, U16, U32, U64}
use Rattle.iv_words.specs.Kinds.{width, is_signed, in_range}
use Rattle.index_types.specs.Indices.{is_index}
use Rattle.area_types.specs.Syntax.{ValueType, Truth, Int, Ix, Bits, Ref, Area, Stored, Array, Struct}
use Rattle.area_types.specs.declared.region.Region.{Region}
use Rattle.area_types.specs.declared.region.Region.TheVariants.{Global, Param, Own}

abbrev pub is_truth : ValueType → Bool
is_truth Truth = true
is_truth _ = false

abbrev pub is_integer : ValueType → Bool
is_integer (Int kind) = true
is_integer _ = false

abbrev pub is_unsigned_integer : ValueType → Bool
is_unsigned_integer (Int kind) = not (is_signed kind)
is_unsigned_integer _ = false

abbrev pub is_signed_integer : ValueType → Bool
is_signed_integer (Int kind) = is_signed kind
is_signed_integer _ = false

abbrev pub is_index_type : ValueType → Bool
is_index_type (Ix n) = true
is_index_type _ = false

abbrev pub is_bit_data : ValueType → Bool
is_bit_data (Bits k) = true
is_bit_data _ = false

abbrev pub is_reference : ValueType → Bool
is_reference (Ref constant region target) = true
is_reference _ = false

-- bool or a whole number
abbrev pub is_plain : ValueType → Bool
is_plain t = is_truth t || is_integer t

-- a literal has an integer type that holds it, and ix(n) where it is from 0 to n - 1
abbrev pub holds : ValueType → ℤ → Bool
holds (Int kind) v = in_range kind v
holds (Ix n) v = is_index n v
holds _ v = false

-- the least unsigned kind of at least so many bits
abbrev pub least_unsigned : ℕ → IntKind
least_unsigned bits = if nat_le bits 8 then U8 else (if nat_le bits 16 then U16 else (if nat_le bits 32 then U32 else U64))

-- equal types

abbrev pub same_truth : Bool → Bool → Bool
same_truth true b = b
same_truth false b = not b

abbrev pub same_kind : IntKind → IntKind → Bool
same_kind a b = nat_eq (width a) (width b) && same_truth (is_signed a) (is_signed b)

abbrev pub same_region : Region → Region → Bool
same_region Global Global = true
same_region (Param i) (Param j) = nat_eq i j
same_region Own Own = true
same_region _ _ = false

abbrev mutual
  pub same_type : ValueType → ValueType → Bool
  same_type Truth Truth = true
  same_type (Int j) (Int k) = same_kind j k
  same_type (Ix m) (Ix n) = nat_eq m n
  same_type (Bits j) (Bits k) = nat_eq j k
  same_type (Ref c r a) (Ref d q b) = same_truth c d && same_region r q && same_area a b
  same_type _ _ = false

  pub same_area : Area → Area → Bool
  same_area (Stored t) (Stored u) = same_type t u
  same_area (Array m a) (Array n b) = nat_eq m n && same_area a b
  same_area (Struct j) (Struct k) = nat_eq j k
  same_area _ _ = false
