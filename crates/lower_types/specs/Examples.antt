-- Small declarations, and exactly the C that the map has for them.
use Rattle.std.specs.Prelude.{◌≡◌, ℕ, pos, negsuc, true, false, List, [], ◌∷◌, map, Some, None, codes}
use Rattle.iv_words.specs.declared.IntKind.TheVariants.{U8, U16, I16}
use Rattle.run_records.specs.declared.Plain.TheVariants as plain
use Rattle.area_types.specs.Syntax.{Truth, Int, Ix, Ref, Stored, Array, Struct, StructType}
use Rattle.type_trees.specs.Trees.{Leaf, Many as Repeated, Struct as Structure, End, Field}
use Rattle.area_types.specs.declared.region.Region.TheVariants.{Param}
use Rattle.core_tree.specs.Syntax.{ModuleCore, AreaCore, ImportCore}
use Rattle.c_ast.specs.declared.CScalar.TheVariants as scalar
use Rattle.c_ast.specs.declared.CBase.TheVariants as base
use Rattle.c_ast.specs.declared.CType.TheVariants.{Value, Pointer}
use Rattle.c_ast.specs.declared.Suffix.TheVariants.{Plain, U}
use Rattle.c_ast.specs.declared.CUnary.TheVariants.{Neg}
use Rattle.c_ast.specs.declared.CBinary.TheVariants.{Sub}
use Rattle.c_ast.specs.Syntax.{Number, Unary, Binary, Init, One, Zero, Many, Inits, NoInits, MoreInits}
use Rattle.lower_types.specs.Names.{array_name, local_name}
use Rattle.lower_types.specs.Types.{TypeTable, table_for}
use Rattle.lower_types.specs.Arrays.{met, met_structs}
use Rattle.lower_types.specs.Initializers.{first_init}
use Rattle.lower_types.specs.Constants.{number_for}
use Rattle.lower_types.specs.Declarations.{struct_for, extern_for, object_for}

-- ---- a module

-- `struct Ring { head : ix(4); buf : [4] uint8_t; }`
abbrev pub ring : StructType
ring = record {
  name = codes "Ring";
  fields = record { name = codes "head"; area = Stored (Ix 4) } ∷ record { name = codes "buf"; area = Array 4 (Stored (Int U8)) } ∷ [];
}

-- its array type, and the one of `[2] struct Ring`, with their numbers
abbrev pub ring_types : TypeTable
ring_types = record { structs = ring ∷ []; words = []; arrays = Array 4 (Stored (Int U8)) ∷ Array 2 (Struct 0) ∷ [] }

-- `const area table : [4] ix(4) = {0, 3};`
abbrev pub table : AreaCore
table = record { name = codes "table"; constant = true; area = Array 4 (Stored (Ix 4)); first = pos 0 ∷ pos 3 ∷ pos 0 ∷ pos 0 ∷ [] }

-- `area level : int16_t = -5;`
abbrev pub level : AreaCore
level = record { name = codes "level"; constant = false; area = Stored (Int I16); first = negsuc 4 ∷ [] }

-- `area idle : [4] uint8_t;`
abbrev pub idle : AreaCore
idle = record { name = codes "idle"; constant = false; area = Array 4 (Stored (Int U8)); first = pos 0 ∷ pos 0 ∷ pos 0 ∷ pos 0 ∷ [] }

-- `import send(r : const ref s [4] uint8_t, on : bool) -> uint8_t;`
abbrev pub send : ImportCore
send = record { name = codes "send"; params = Ref true (Param 0) (Array 4 (Stored (Int U8))) ∷ Truth ∷ []; result = Some (plain.Int U8) }

abbrev pub small : ModuleCore
small = record { structs = record { structs = []; words = [] }; layouts = []; areas = table ∷ level ∷ idle ∷ []; imports = send ∷ []; procs = [] }

-- ---- its C

abbrev pub row : List Init → Inits
row [] = NoInits
row (i ∷ is) = MoreInits i (row is)

abbrev pub number : ℕ → Init
number n = One (Number n Plain)

-- the array of the struct's field, the struct, and the array of structs
abbrev pub RingsAreMet : Type 0
RingsAreMet = met (met_structs 0 [] (ring ∷ [])) (Array 2 (Struct 0)) ≡ Array 4 (Stored (Int U8)) ∷ Struct 0 ∷ Array 2 (Struct 0) ∷ []

-- struct iva_0 { uint8_t at[4]; }; struct iv_Ring { uint16_t iv_head; struct iva_0 iv_buf; }; struct iva_1 { struct iv_Ring at[2]; };
abbrev pub StructsStand : Type 0
StructsStand =
    map (struct_for ring_types) (Array 4 (Stored (Int U8)) ∷ Struct 0 ∷ Array 2 (Struct 0) ∷ [])
    ≡ record { name = array_name 0; members = record { name = codes "at"; base = base.Scalar (scalar.Int U8); length = Some 4 } ∷ [] }
    ∷ record { name = codes "iv_Ring"; members = record { name = codes "iv_head"; base = base.Scalar (scalar.Int U16); length = None } ∷ record { name = codes "iv_buf"; base = base.Struct (array_name 0); length = None } ∷ [] }
    ∷ record { name = array_name 1; members = record { name = codes "at"; base = base.Struct (codes "iv_Ring"); length = Some 2 } ∷ [] }
    ∷ []

-- the array of rings whose first cells are 1, 5 and 6, of which only the first is not zero: {{{1, {{5, 6}}}}}
abbrev pub RingsStand : Type 0
RingsStand =
    first_init (Repeated 2 (Structure 0 (Field 0 (Leaf (Ix 4)) (Field 1 (Repeated 4 (Leaf (Int U8))) End)))) (pos 1 ∷ pos 5 ∷ pos 6 ∷ pos 0 ∷ pos 0 ∷ pos 0 ∷ pos 0 ∷ pos 0 ∷ pos 0 ∷ pos 0 ∷ [])
    ≡ Many (row (Many (row (Many (row (number 1 ∷ Many (row (Many (row (number 5 ∷ number 6 ∷ [])) ∷ [])) ∷ [])) ∷ [])) ∷ []))

-- static struct iva_0 const iv_table = {{0, 3}};
abbrev pub TableStands : Type 0
TableStands =
    object_for small (table_for small) table
    ≡ record { name = codes "iv_table"; constant = true; base = base.Struct (array_name 0); init = Many (row (Many (row (number 0 ∷ number 3 ∷ [])) ∷ [])) }

-- static int16_t iv_level = (-5);
abbrev pub LevelStands : Type 0
LevelStands =
    object_for small (table_for small) level
    ≡ record { name = codes "iv_level"; constant = false; base = base.Scalar (scalar.Int I16); init = One (Unary Neg (Number 5 Plain)) }

-- static struct iva_1 iv_idle = {0};
abbrev pub IdleStands : Type 0
IdleStands = object_for small (table_for small) idle ≡ record { name = codes "iv_idle"; constant = false; base = base.Struct (array_name 1); init = Zero }

-- extern uint8_t iv_send(struct iva_1 const *, bool);
abbrev pub SendStands : Type 0
SendStands =
    extern_for (table_for small) send
    ≡ record { name = codes "iv_send"; params = Pointer true (base.Struct (array_name 1)) ∷ Value scalar.Truth ∷ []; result = Value (scalar.Int U8) }

-- ((-9223372036854775807) - 1), 9223372036854775807, 9223372036854775808u
abbrev pub LeastStands : Type 0
LeastStands = number_for (negsuc 9_223_372_036_854_775_807) ≡ Binary Sub (Unary Neg (Number 9_223_372_036_854_775_807 Plain)) (Number 1 Plain)

abbrev pub GreatestSignedStands : Type 0
GreatestSignedStands = number_for (pos 9_223_372_036_854_775_807) ≡ Number 9_223_372_036_854_775_807 Plain

abbrev pub UnsignedStands : Type 0
UnsignedStands = number_for (pos 9_223_372_036_854_775_808) ≡ Number 9_223_372_036_854_775_808 U

-- how the names of an array type and of a local are spelled
pub record NamesStand : Type 0 where
  pub array : array_name 0 ≡ codes "iva_0"
  pub local : local_name 9 ≡ codes "ivt_9"
