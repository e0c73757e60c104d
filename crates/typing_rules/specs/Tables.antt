-- The table of structs that types say: the trees of the code for them.
use Rattle.std.specs.Prelude.{List, map}
use Rattle.iv_words.specs.declared.IntKind.{IntKind}
use Rattle.area_types.specs.Syntax as types
use Rattle.area_types.specs.Syntax.{ValueType, Area, StructType}
use Rattle.area_types.specs.Tables.{Table}
use Rattle.area_types.specs.declared.FieldDef.{FieldDef}
use Rattle.area_types.specs.declared.StructDef.{StructDef}
use Rattle.area_types.specs.declared.area.Area.{Area as AreaTree}
use Rattle.area_types.specs.declared.area.Area.TheVariants as area
use Rattle.area_types.specs.declared.area.ValueType.{ValueType as TypeTree}
use Rattle.area_types.specs.declared.area.ValueType.TheVariants as held

abbrev mutual
  pub type_tree : ValueType → TypeTree
  type_tree types.Truth = held.Bool
  type_tree (types.Int kind) = held.Int kind
  type_tree (types.Ix n) = held.Ix n
  type_tree (types.Bits k) = held.Bits k
  type_tree (types.Ref constant region target) = held.Ref (record { constant = constant; region = region; area = area_tree target })

  pub area_tree : Area → AreaTree
  area_tree (types.Stored t) = area.Stored (type_tree t)
  area_tree (types.Array n a) = area.Array n (area_tree a)
  area_tree (types.Struct k) = area.Struct k

abbrev pub field_def : types.Field → FieldDef
field_def f = record { name = f.name; area = area_tree f.area }

abbrev pub struct_def : StructType → StructDef
struct_def s = record { name = s.name; fields = map field_def s.fields }

abbrev pub table_of : List StructType → List IntKind → Table
table_of ss kinds = record { structs = map struct_def ss; words = kinds }
