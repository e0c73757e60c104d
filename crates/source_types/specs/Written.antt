-- The types and areas that a text names, where they exist: an array's or an index's length is from 1 to 65,535, structs and bit data are
-- earlier ones, and a region is global or one of the procedure's region parameters.
use Rattle.std.specs.Prelude.{ℕ, Bool, true, false, if◌then◌else◌, List, [], ◌∷◌, ◌++◌, filter_map, map, Option, Some, None, option_map, option_and_then}
use Rattle.std.specs.List.{position_from}
use Rattle.iv_words.specs.Words.{same_word}
use Rattle.area_types.specs.Syntax as types
use Rattle.area_types.specs.Syntax.{ValueType, Area, StructType, Field}
use Rattle.area_types.specs.Tables.{is_length}
use Rattle.area_types.specs.declared.region.Region.{Region}
use Rattle.area_types.specs.declared.region.Region.TheVariants.{Global, Param}
use Rattle.ivory_tree.specs.Syntax.{Word, TypeSyntax, TruthType, IntType, IndexType, BitsType, RefType, AreaSyntax, StoredArea, ArrayArea, StructArea, FieldSyntax, StructSyntax, GlobalSyntax, ParamSyntax, HeaderSyntax}
use Rattle.ivory_tree.specs.declared.types.RegionText.{RegionText}
use Rattle.ivory_tree.specs.declared.types.RegionText.TheVariants as region
use Rattle.source_types.specs.Environments.{Earlier, AreaDeclared, Callee, has_word, number_of_bits, number_of_struct}

-- ---- regions

-- the region parameters so far, with that of one more type
abbrev pub with_region : List Word → TypeSyntax → List Word
with_region names (RefType s constant (region.Named name) area) = if has_word names name then names else names ++ name ∷ []
with_region names _ = names

abbrev pub with_regions : List Word → List ParamSyntax → List Word
with_regions names [] = names
with_regions names (p ∷ params) = with_regions (with_region names p.ty) params

-- the region parameters of these parameters, in the order in which they first occur
abbrev pub regions_of : List ParamSyntax → List Word
regions_of params = with_regions [] params

abbrev pub region_in : List Word → RegionText → Option Region
region_in regions region.Global = Some Global
region_in regions (region.Named name) = option_map Param (position_from (λ n. same_word n name) 0 regions)

-- ---- types and areas

abbrev pub index_type : ℕ → Option ValueType
index_type n = if is_length n then Some (types.Ix n) else None

abbrev pub bits_type : Earlier → Word → Option ValueType
bits_type earlier name = option_map types.Bits (number_of_bits earlier name)

abbrev pub array_of : ℕ → Option Area → Option Area
array_of n element = if is_length n then option_map (types.Array n) element else None

abbrev pub ref_type : Bool → Option Region → Option Area → Option ValueType
ref_type constant None area = None
ref_type constant (Some region) area = option_map (types.Ref constant region) area

abbrev mutual
  pub type_in : Earlier → List Word → TypeSyntax → Option ValueType
  type_in earlier regions (TruthType s) = Some types.Truth
  type_in earlier regions (IntType s kind) = Some (types.Int kind)
  type_in earlier regions (IndexType s n) = index_type n
  type_in earlier regions (BitsType s name) = bits_type earlier name
  type_in earlier regions (RefType s constant region area) = ref_type constant (region_in regions region) (area_in earlier area)

  pub area_in : Earlier → AreaSyntax → Option Area
  area_in earlier (StoredArea s ty) = option_map types.Stored (type_in earlier [] ty)
  area_in earlier (ArrayArea s n element) = array_of n (area_in earlier element)
  area_in earlier (StructArea s name) = option_map types.Struct (number_of_struct earlier name)

-- ---- items

abbrev pub field_in : Earlier → FieldSyntax → Option Field
field_in earlier f = option_map (λ a. record { name = f.name.text; area = a }) (area_in earlier f.area)

-- a struct; a field without an area is left out, for its place is at fault
abbrev pub struct_in : Earlier → StructSyntax → StructType
struct_in earlier i = record { name = i.name.text; fields = filter_map (field_in earlier) i.fields }

abbrev pub global_in : Earlier → GlobalSyntax → AreaDeclared
global_in earlier i = record { name = i.name.text; constant = i.constant; area = area_in earlier i.area }

abbrev pub has_result : Option TypeSyntax → Bool
has_result None = false
has_result (Some t) = true

abbrev pub callee_in : Earlier → Bool → HeaderSyntax → Callee
callee_in earlier import h = record {
  name = h.name.text;
  import = import;
  params = map (λ (p : ParamSyntax). type_in earlier (regions_of h.params) p.ty) h.params;
  gives = has_result h.result;
  result = option_and_then (type_in earlier (regions_of h.params)) h.result;
}
