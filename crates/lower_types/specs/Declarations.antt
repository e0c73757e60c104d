-- What a unit declares besides its functions: a struct for each struct and array type, an extern for each import, and an object of
-- file scope for each area, with its first values.
use Rattle.std.specs.Prelude.{List, [], ◌∷◌, map, slice_get, Option, Some, None}
use Rattle.area_types.specs.Syntax.{Area, Stored, Array, Struct, Field, StructType}
use Rattle.area_types.specs.Tables.{written_out}
use Rattle.core_tree.specs.Syntax.{ModuleCore, AreaCore, ImportCore, ParamCore}
use Rattle.c_ast.specs.declared.CMember.{CMember}
use Rattle.c_ast.specs.declared.CStruct.{CStruct}
use Rattle.c_ast.specs.declared.CExtern.{CExtern}
use Rattle.c_ast.specs.declared.CParam.{CParam}
use Rattle.c_ast.specs.Syntax.{FileObject}
use Rattle.lower_types.specs.Names.{item_name, array_name, elements_name}
use Rattle.lower_types.specs.Arrays.{declared, place_of}
use Rattle.lower_types.specs.Types.{TypeTable, table_for, struct_name, base_for, type_for, plain_result_for}
use Rattle.lower_types.specs.Initializers.{first_init}

-- ---- structs

abbrev pub member_for : TypeTable → Field → CMember
member_for t f = record { name = item_name f.name; base = base_for t f.area; length = None }

abbrev pub members_of : TypeTable → Option StructType → List CMember
members_of t None = []
members_of t (Some s) = map (member_for t) s.fields

abbrev pub struct_for : TypeTable → Area → CStruct
struct_for t (Array n element) = record { name = array_name (place_of t.arrays (Array n element)); members = record { name = elements_name; base = base_for t element; length = Some n } ∷ [] }
struct_for t (Struct k) = record { name = struct_name (slice_get t.structs k); members = members_of t (slice_get t.structs k) }
struct_for t (Stored held) = record { name = []; members = [] }

abbrev pub structs_for : ModuleCore → List CStruct
structs_for m = map (struct_for (table_for m)) (declared m)

-- ---- externs, objects and parameters

abbrev pub extern_for : TypeTable → ImportCore → CExtern
extern_for t i = record { name = item_name i.name; params = map (type_for t) i.params; result = plain_result_for i.result }

abbrev pub object_for : ModuleCore → TypeTable → AreaCore → FileObject
object_for m t a = record { name = item_name a.name; constant = a.constant; base = base_for t a.area; init = first_init (written_out m.structs a.area) a.first }

abbrev pub param_for : TypeTable → ParamCore → CParam
param_for t p = record { name = item_name p.name; ty = type_for t p.ty }
