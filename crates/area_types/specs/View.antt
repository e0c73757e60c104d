-- What each tree of the code says in the abstract syntax, by the trees' own folds.
use Rattle.std.specs.Prelude.{ℕ, map}
use Rattle.area_types.specs.Syntax as syntax
use Rattle.area_types.specs.Syntax.{ValueType, Area, Field, StructType}
use Rattle.area_types.specs.Shapes as shape
use Rattle.area_types.specs.Shapes.{Shape}
use Rattle.area_types.specs.declared.area.ValueType.{ValueType as TypeTree}
use Rattle.area_types.specs.declared.area.Area.TheOpen.{Area-F, ValueType-F, RefType-F}
use Rattle.area_types.specs.declared.area.Area.TheFolds.{fold-Area, fold-ValueType}
use Rattle.area_types.specs.declared.area.Area.{Area as AreaTree}
use Rattle.area_types.specs.declared.shape.AreaShape.{AreaShape}
use Rattle.area_types.specs.declared.shape.AreaShape.TheOpen.{AreaShape-F}
use Rattle.area_types.specs.declared.shape.AreaShape.TheFolds.{fold-AreaShape}
use Rattle.area_types.specs.declared.structs.FieldDef.{FieldDef}
use Rattle.area_types.specs.declared.structs.StructDef.{StructDef}

abbrev pub type_step : ValueType-F Area ValueType ValueType → ValueType
type_step ValueType-F.Bool = syntax.Truth
type_step (ValueType-F.Int kind) = syntax.Int kind
type_step (ValueType-F.Ix length) = syntax.Ix length
type_step (ValueType-F.Bits word) = syntax.Bits word
type_step (ValueType-F.Ref reference) = reference

abbrev pub ref_step : RefType-F Area ValueType ValueType → ValueType
ref_step r = syntax.Ref r.constant r.region r.area

abbrev pub area_step : Area-F Area ValueType ValueType → Area
area_step (Area-F.Stored held) = syntax.Stored held
area_step (Area-F.Array length element) = syntax.Array length element
area_step (Area-F.Struct number) = syntax.Struct number

abbrev pub type_of : TypeTree → ValueType
type_of = fold-ValueType Area ValueType ValueType area_step type_step ref_step

abbrev pub area_of : AreaTree → Area
area_of = fold-Area Area ValueType ValueType area_step type_step ref_step

abbrev pub shape_step : AreaShape-F Shape → Shape
shape_step (AreaShape-F.Stored held) = shape.Stored (type_of held)
shape_step (AreaShape-F.Array length element) = shape.Array length element
shape_step (AreaShape-F.Struct name) = shape.Struct name

abbrev pub shape_of : AreaShape → Shape
shape_of = fold-AreaShape Shape shape_step

abbrev pub field_of : FieldDef → Field
field_of f = record { name = f.name; area = area_of f.area }

abbrev pub struct_of : StructDef → StructType
struct_of s = record { name = s.name; fields = map field_of s.fields }

-- a found part: the number of its first cell, and its area
abbrev pub found_of : ℕ × AreaTree → ℕ × Area
found_of found = (found.0, area_of found.1)
