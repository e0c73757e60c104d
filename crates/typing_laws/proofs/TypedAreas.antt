-- An area, or a type, that breaks no rule exists and is small, and what it is made of is declared.
use Rattle.std.proofs.Common.{◌≡◌, List, [], length, Some, None, option_map, false, cond, not, refl, ◌∙◌, ap, IsTrue}
use Rattle.std.specs.List.{list_any}
use Rattle.iv_words.specs.Words.{same_word}
use Rattle.ivory_tree.specs.Syntax.{Word, TypeSyntax, TruthType, IntType, IndexType, BitsType, RefType, AreaSyntax, StoredArea, ArrayArea, StructArea}
use Rattle.ivory_tree.specs.declared.items.BitsItem.{BitsItem}
use Rattle.ivory_tree.specs.Formed.{NoReference, FormedType, FormedArea}
use Rattle.area_types.specs.Syntax as types
use Rattle.area_types.specs.Syntax.{ValueType, Area, StructType}
use Rattle.area_types.specs.Tables.{is_length, is_small}
use Rattle.area_types.specs.declared.region.Region.{Region}
use Rattle.source_types.specs.Values.{is_reference}
use Rattle.source_types.specs.Environments.{Earlier, words}
use Rattle.source_types.specs.Written.{ref_type, region_in, type_in, area_in}
use Rattle.rule_faults.specs.Nodes.{Use, Within, AType, AnArea}
use Rattle.rule_faults.specs.ItemRules.{written, rule_9}
use Rattle.rule_faults.specs.ExpressionRows.{type_row, area_row}
use Rattle.rule_faults.specs.FirstFault.{first_of}
use Rattle.typing_rules.specs.Areas.{NamesArea, NamesType, is_small_area, has_small_area}
use Rattle.typing_laws.proofs.Judged.{cons_parts, sure, no_test}
use Rattle.typing_laws.proofs.Made.{MadeType, MadeArea, position_below, below_zero}
use Rattle.typing_laws.proofs.Typed.{any_placed, There}

-- ---- types of values, which are not references

pub record ValueNamed (earlier : Earlier) (regions : List Word) (ty : TypeSyntax) : Type 0 where
  pub value : ValueType
  pub exists : type_in earlier regions ty ≡ Some value
  pub plain : is_reference value ≡ false
  pub is_made : MadeType (length earlier.bits) (length earlier.structs) value

pub value_named : (earlier : Earlier) (regions : List Word) (place : Use) (ty : TypeSyntax) → NoReference ty → first_of (type_row earlier regions place ty) ≡ None → ValueNamed earlier regions ty
value_named earlier regions place (TruthType s) f h = record { value = types.Truth; exists = refl; plain = refl; is_made = tt }
value_named earlier regions place (IntType s k) f h = record { value = types.Int k; exists = refl; plain = refl; is_made = tt }
value_named earlier regions place (IndexType s n) f h =
    let p = cons_parts (AType earlier regions place (IndexType s n)) [] h in
    record { value = types.Ix n; exists = ap (λ b. cond b (Some (types.Ix n)) None) (sure (is_length n) p.first.r8); plain = refl; is_made = tt }
value_named earlier regions place (BitsType s name) f h =
    let p = cons_parts (AType earlier regions place (BitsType s name)) [] h in
    let n = any_placed (λ (i : BitsItem). same_word i.name.text name) 0 earlier.bits (sure (list_any (λ (i : BitsItem). same_word i.name.text name) earlier.bits) p.first.r6) in
    record {
      value = types.Bits n.number;
      exists = ap (option_map types.Bits) n.at;
      plain = refl;
      is_made = below_zero n.number (length earlier.bits) (position_below (λ (i : BitsItem). same_word i.name.text name) 0 earlier.bits n.number n.at);
    }
value_named earlier regions place (RefType s c r a) f h = absurd f

-- ---- areas

pub record AreaNamed (earlier : Earlier) (text : AreaSyntax) : Type 0 where
  pub area : Area
  pub names : NamesArea earlier text area
  pub is_made : MadeArea (length earlier.bits) (length earlier.structs) area

small_there : (earlier : Earlier) (text : AreaSyntax) (area : Area) → area_in earlier text ≡ Some area → rule_9 (AnArea earlier text) ≡ false → IsTrue (is_small_area earlier area)
small_there earlier text area h r = sure (is_small_area earlier area) (no_test (area_in earlier text) area (λ a. not (is_small (words earlier) (written earlier a))) h r)

pub area_typed : (earlier : Earlier) (text : AreaSyntax) → FormedArea text → first_of (area_row earlier text) ≡ None → AreaNamed earlier text
area_typed earlier (StoredArea s ty) f h =
    let p = cons_parts (AnArea earlier (StoredArea s ty)) (type_row earlier [] Within ty) h in
    let v = value_named earlier [] Within ty f.0 p.rest in
    let exists : area_in earlier (StoredArea s ty) ≡ Some (types.Stored v.value) = ap (option_map types.Stored) v.exists in
    record { area = types.Stored v.value; names = record { exists = exists; small = small_there earlier (StoredArea s ty) (types.Stored v.value) exists p.first.r9 }; is_made = (v.plain, v.is_made) }
area_typed earlier (ArrayArea s n element) f h =
    let p = cons_parts (AnArea earlier (ArrayArea s n element)) (area_row earlier element) h in
    let e = area_typed earlier element f p.rest in
    let exists : area_in earlier (ArrayArea s n element) ≡ Some (types.Array n e.area) =
    ap (λ b. cond b (option_map (types.Array n) (area_in earlier element)) None) (sure (is_length n) p.first.r8) ∙ ap (option_map (types.Array n)) e.names.exists in
    record { area = types.Array n e.area; names = record { exists = exists; small = small_there earlier (ArrayArea s n element) (types.Array n e.area) exists p.first.r9 }; is_made = e.is_made }
area_typed earlier (StructArea s name) f h =
    let p = cons_parts (AnArea earlier (StructArea s name)) [] h in
    let n = any_placed (λ (x : StructType). same_word x.name name) 0 earlier.structs (sure (list_any (λ (x : StructType). same_word x.name name) earlier.structs) p.first.r5) in
    let exists : area_in earlier (StructArea s name) ≡ Some (types.Struct n.number) = ap (option_map types.Struct) n.at in
    record {
      area = types.Struct n.number;
      names = record { exists = exists; small = small_there earlier (StructArea s name) (types.Struct n.number) exists p.first.r9 };
      is_made = below_zero n.number (length earlier.structs) (position_below (λ (x : StructType). same_word x.name name) 0 earlier.structs n.number n.at);
    }

-- ---- types

-- the region of a reference is there
abbrev pub RegionThere : List Word → TypeSyntax → Type 0
RegionThere regions (TruthType s) = Unit {0}
RegionThere regions (IntType s k) = Unit {0}
RegionThere regions (IndexType s n) = Unit {0}
RegionThere regions (BitsType s name) = Unit {0}
RegionThere regions (RefType s c r a) = There Region (region_in regions r)

pub record TypeNamed (earlier : Earlier) (regions : List Word) (ty : TypeSyntax) : Type 0 where
  pub value : ValueType
  pub names : NamesType earlier regions ty value
  pub is_made : MadeType (length earlier.bits) (length earlier.structs) value

plain_small : (earlier : Earlier) (t : ValueType) → is_reference t ≡ false → IsTrue (has_small_area earlier t)
plain_small earlier types.Truth h = refl
plain_small earlier (types.Int k) h = refl
plain_small earlier (types.Ix n) h = refl
plain_small earlier (types.Bits k) h = refl
plain_small earlier (types.Ref c r a) h = let no : ⊥ = cc in absurd no

of_value : (earlier : Earlier) (regions : List Word) (ty : TypeSyntax) → ValueNamed earlier regions ty → TypeNamed earlier regions ty
of_value earlier regions ty v = record { value = v.value; names = record { exists = v.exists; small = plain_small earlier v.value v.plain }; is_made = v.is_made }

pub type_named : (earlier : Earlier) (regions : List Word) (place : Use) (ty : TypeSyntax) → FormedType ty → RegionThere regions ty → first_of (type_row earlier regions place ty) ≡ None → TypeNamed earlier regions ty
type_named earlier regions place (TruthType s) f r h = of_value earlier regions (TruthType s) (value_named earlier regions place (TruthType s) tt h)
type_named earlier regions place (IntType s k) f r h = of_value earlier regions (IntType s k) (value_named earlier regions place (IntType s k) tt h)
type_named earlier regions place (IndexType s n) f r h = of_value earlier regions (IndexType s n) (value_named earlier regions place (IndexType s n) tt h)
type_named earlier regions place (BitsType s name) f r h = of_value earlier regions (BitsType s name) (value_named earlier regions place (BitsType s name) tt h)
type_named earlier regions place (RefType s c named area) f r h =
    let p = cons_parts (AType earlier regions place (RefType s c named area)) (area_row earlier area) h in
    let a = area_typed earlier area f p.rest in
    record {
      value = types.Ref c r.value a.area;
      names = record { exists = ap (λ o. ref_type c o (area_in earlier area)) r.at ∙ ap (ref_type c (Some r.value)) a.names.exists; small = a.names.small };
      is_made = a.is_made;
    }
