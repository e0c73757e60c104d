-- What a core has of the items that stand before a place of the text: each is there at its number, with its types.
use Rattle.std.proofs.Common.{◌≡◌, ℕ, List, map, All, IsTrue, true, false, Some, option_map, slice_get}
use Rattle.iv_words.specs.declared.IntKind.{IntKind}
use Rattle.ivory_tree.specs.declared.items.BitsItem.{BitsItem}
use Rattle.area_types.specs.Syntax as types
use Rattle.area_types.specs.Syntax.{ValueType, StructType}
use Rattle.area_types.specs.Tables.{Table, structs_of}
use Rattle.area_types.specs.View.{struct_of}
use Rattle.area_types.specs.declared.StructDef.{StructDef}
use Rattle.bit_data.specs.Layouts.{placed_from}
use Rattle.bit_data.specs.declared.BitLayout.{BitLayout}
use Rattle.region_check.specs.Found.{region_count}
use Rattle.core_tree.specs.Syntax.{AreaCore, ImportCore, ProcCore, ModuleCore}
use Rattle.core_tree.specs.Types.{is_core_area, is_type}
use Rattle.core_tree.specs.Environments.{Header, type_of_plain}
use Rattle.source_types.specs.Environments.{Earlier, AreaDeclared, Callee, words}
use Rattle.typing_rules.specs.Environments.{of_kind}
use Rattle.typing_rules.specs.Items.{wish_of}
use Rattle.typing_laws.proofs.Callees.{AllDetermined}
use Rattle.core_validity.proofs.Lists.{All-at, Begins, begins_at, Front, unmapped}

-- the fields stand one behind the other in the word
pub record IsLaid (i : BitsItem) (l : BitLayout) : Type 0 where
  pub word : l.word ≡ i.word
  pub fields : l.fields ≡ placed_from 0 (map wish_of i.fields)

-- each field of the struct has an area of the table
abbrev pub HasAreas : Table → StructType → Type 0
HasAreas table s = All (λ (f : types.Field). IsTrue (is_core_area table f.area)) s.fields

pub record IsArea (table : Table) (a : AreaDeclared) (c : AreaCore) : Type 0 where
  pub constant : c.constant ≡ a.constant
  pub area : a.area ≡ Some c.area
  pub there : IsTrue (is_core_area table c.area)

-- what may be called, with the types of its parameters and of its result
pub record IsHeader (table : Table) (c : Callee) (h : Header) : Type 0 where
  pub params : c.params ≡ map Some h.params
  pub result : c.result ≡ h.result
  pub types : All (λ t. IsTrue (is_type table (region_count 0 h.params) t)) h.params
  pub result_type : (t : ValueType) → h.result ≡ Some t → IsTrue (is_type table (region_count 0 h.params) t)

abbrev pub import_header : ImportCore → Header
import_header i = record { params = i.params; result = option_map type_of_plain i.result }

abbrev pub proc_header : ProcCore → Header
proc_header p = record { params = map (λ x. x.ty) p.params; result = p.result }

abbrev pub IsImport : Table → Callee → ImportCore → Type 0
IsImport table c i = IsHeader table c (import_header i)

abbrev pub IsProc : Table → Callee → ProcCore → Type 0
IsProc table c p = IsHeader table c (proc_header p)

pub record Known (m : ModuleCore) (procs : List ProcCore) (earlier : Earlier) : Type 0 where
  pub words_begin : Begins IntKind (words earlier) m.structs.words
  pub bits : Front IsLaid earlier.bits m.layouts
  pub structs_begin : Begins StructType earlier.structs (structs_of m.structs)
  pub struct_fields : All (HasAreas m.structs) earlier.structs
  pub areas : Front (IsArea m.structs) earlier.areas m.areas
  pub imports : Front (IsImport m.structs) (of_kind true earlier.callees) m.imports
  pub procedures : Front (IsProc m.structs) (of_kind false earlier.callees) procs
  pub determined : AllDetermined earlier.callees

-- a struct of the text, in the table
pub record StructAt (m : ModuleCore) (k : ℕ) (s : StructType) : Type 0 where
  pub definition : StructDef
  pub there : slice_get m.structs.structs k ≡ Some definition
  pub is : struct_of definition ≡ s
  pub areas : HasAreas m.structs s

pub struct_at : (m : ModuleCore) (procs : List ProcCore) (earlier : Earlier) (k : ℕ) (s : StructType) → Known m procs earlier → slice_get earlier.structs k ≡ Some s → StructAt m k s
struct_at m procs earlier k s known h =
    let u = unmapped struct_of m.structs.structs k s (begins_at earlier.structs (structs_of m.structs) k s known.structs_begin h) in
    record { definition = u.value; there = u.there; is = u.is; areas = All-at (HasAreas m.structs) earlier.structs k s known.struct_fields h }
