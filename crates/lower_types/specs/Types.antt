-- The C type of each type of a value and of each area: a truth is `bool`, an integer its own kind, an index `uint16_t`, bit data their
-- word, an array or a struct a struct, and a reference a pointer.
use Rattle.std.specs.Prelude.{List, [], slice_get, Option, Some, None}
use Rattle.iv_words.specs.declared.IntKind.{IntKind}
use Rattle.iv_words.specs.declared.IntKind.TheVariants.{U16}
use Rattle.run_records.specs.declared.Plain.{Plain}
use Rattle.run_records.specs.declared.Plain.TheVariants as plain
use Rattle.area_types.specs.Syntax.{Name, ValueType, Truth, Int, Ix, Bits, Ref, Area, Stored, Array, Struct, StructType}
use Rattle.area_types.specs.Tables.{structs_of}
use Rattle.core_tree.specs.Syntax.{ModuleCore}
use Rattle.c_ast.specs.declared.CScalar.{CScalar}
use Rattle.c_ast.specs.declared.CScalar.TheVariants as scalar
use Rattle.c_ast.specs.declared.CBase.{CBase}
use Rattle.c_ast.specs.declared.CBase.TheVariants as base
use Rattle.c_ast.specs.declared.CType.{CType}
use Rattle.c_ast.specs.declared.CType.TheVariants.{Void, Value, Pointer}
use Rattle.lower_types.specs.Names.{item_name, array_name}
use Rattle.lower_types.specs.Arrays.{declared, arrays_among, place_of}

-- what the C types of a module need of it: its structs, the words of its bit data and its array types, by number
pub record TypeTable : Type 0 where
  pub structs : List StructType
  pub words : List IntKind
  pub arrays : List Area

abbrev pub table_for : ModuleCore → TypeTable
table_for m = record { structs = structs_of m.structs; words = m.structs.words; arrays = arrays_among (declared m) }

-- ---- scalars

-- the kind of whole numbers that holds values of the type; a truth has none
abbrev pub kind_of : TypeTable → ValueType → Option IntKind
kind_of t Truth = None
kind_of t (Int kind) = Some kind
kind_of t (Ix n) = Some U16
kind_of t (Bits k) = slice_get t.words k
kind_of t (Ref constant region target) = None

abbrev pub scalar_in : Option IntKind → CScalar
scalar_in None = scalar.Truth
scalar_in (Some kind) = scalar.Int kind

abbrev pub scalar_for : TypeTable → ValueType → CScalar
scalar_for t ty = scalar_in (kind_of t ty)

abbrev pub plain_scalar : Plain → CScalar
plain_scalar plain.Truth = scalar.Truth
plain_scalar (plain.Int kind) = scalar.Int kind

-- ---- objects

abbrev pub struct_name : Option StructType → Name
struct_name None = []
struct_name (Some s) = item_name s.name

abbrev pub base_for : TypeTable → Area → CBase
base_for t (Stored held) = base.Scalar (scalar_for t held)
base_for t (Array n element) = base.Struct (array_name (place_of t.arrays (Array n element)))
base_for t (Struct k) = base.Struct (struct_name (slice_get t.structs k))

-- ---- values

abbrev pub type_for : TypeTable → ValueType → CType
type_for t (Ref constant region target) = Pointer constant (base_for t target)
type_for t ty = Value (scalar_for t ty)

-- of a procedure
abbrev pub result_for : TypeTable → Option ValueType → CType
result_for t None = Void
result_for t (Some ty) = type_for t ty

-- of an import
abbrev pub plain_result_for : Option Plain → CType
plain_result_for None = Void
plain_result_for (Some ty) = Value (plain_scalar ty)
