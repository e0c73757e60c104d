-- Which scalar of C holds a stored value, and that each number of the value's type is one of the scalar's.
use Rattle.std.specs.Prelude.{◌≡◌, ℤ, List, slice_get, unwrap_or, IsTrue}
use Rattle.iv_words.specs.declared.IntKind.{IntKind}
use Rattle.iv_words.specs.declared.IntKind.TheVariants.{U8, U16}
use Rattle.type_trees.specs.Trees.{Leaf, Many, Struct, End, Field}
use Rattle.type_trees.specs.Values.{Fits}
use Rattle.area_types.specs.Syntax as types
use Rattle.area_types.specs.Syntax.{ValueType}
use Rattle.area_types.specs.Tables.{Table, has_index_length}
use Rattle.area_types.specs.Trees.{Written, WrittenRow}
use Rattle.core_tree.specs.Types.{is_value}
use Rattle.c_ast.specs.declared.CScalar.{CScalar}
use Rattle.c_ast.specs.declared.CScalar.TheVariants.{Truth, Int}
use Rattle.c_ast.specs.Targets.{TargetTable}
use Rattle.core_meaning.specs.Areas.{Held}
use Rattle.area_objects.specs.Shapes.{Naming}
use Rattle.area_objects.specs.Holds.{CanHold, CellsFit}

-- an index is a `uint16_t`, bits are their word; no area stores a reference, nor a word that is not there
abbrev pub scalar_of : List IntKind → ValueType → CScalar
scalar_of words types.Truth = Truth
scalar_of words (types.Int kind) = Int kind
scalar_of words (types.Ix n) = Int U16
scalar_of words (types.Bits k) = Int (unwrap_or (slice_get words k) U8)
scalar_of words (types.Ref constant region target) = Int U8

abbrev pub NumbersCanBeHeld : Type 0
NumbersCanBeHeld = (t : TargetTable) (table : Table) (s : ValueType) (n : ℤ) → IsTrue (has_index_length s) → IsTrue (is_value table s n) → CanHold t (scalar_of table.words s) n

abbrev mutual
  -- each index that is stored has a length from 1 to 65,535
  pub IndicesSmall : Written → Type 0
  IndicesSmall (Leaf s) = IsTrue (has_index_length s)
  IndicesSmall (Many n a) = IndicesSmall a
  IndicesSmall (Struct k r) = IndicesSmallIn r

  pub IndicesSmallIn : WrittenRow → Type 0
  IndicesSmallIn End = Unit {0}
  IndicesSmallIn (Field f a r) = IndicesSmall a × IndicesSmallIn r

-- the scalar of each type that has values is that one
abbrev pub NamesScalars : Table → Naming → Type 0
NamesScalars table g = (s : ValueType) (n : ℤ) → IsTrue (is_value table s n) → g.scalar s ≡ scalar_of table.words s

-- so a value of a type is one that the scalars of the type can hold
abbrev pub ValuesCanBeHeld : Type 0
ValuesCanBeHeld =
    (t : TargetTable) (table : Table) (g : Naming) (ty : Written) (held : Held) → NamesScalars table g → IndicesSmall ty
    → Fits (λ s n. IsTrue (is_value table s n)) ty held → CellsFit (CanHold t) g ty held
