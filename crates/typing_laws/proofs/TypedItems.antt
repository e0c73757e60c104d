-- Items that break no rule stand.
use Rattle.std.proofs.Common.{◌≡◌, ℕ, ◌≤◌, ℤ, List, [], ◌∷◌, ◌++◌, length, map, Option, Some, None, option_map, option_and_then, is_some, IfSome, Bool, true, false, cond, not, ◌&&◌, ◌||◌, refl, sym, ◌∙◌, ap, subst, IsTrue, All, arith, nat_eq, filter_map, Err, length-append, le_refl}
use Rattle.std.specs.List.{list_any, list_all}
use Rattle.std.proofs.lemmas.List.Elements.{All-head, All-tail}
use Rattle.iv_words.specs.Words.{same_word}
use Rattle.iv_words.specs.Kinds.{width, is_signed}
use Rattle.iv_words.specs.declared.Span.{Span}
use Rattle.ivory_tree.specs.Syntax as syntax
use Rattle.ivory_tree.specs.Syntax.{Word, TypeSyntax, TruthType, IntType, IndexType, BitsType, RefType, AreaSyntax, FieldSyntax, StructSyntax, GlobalSyntax, ParamSyntax, HeaderSyntax, ContractSyntax, ProcSyntax, InitSyntax, ItemSyntax}
use Rattle.ivory_tree.specs.declared.items.BitField.{BitField}
use Rattle.ivory_tree.specs.declared.items.BitsItem.{BitsItem}
use Rattle.ivory_tree.specs.declared.types.RegionText.TheVariants as region
use Rattle.ivory_tree.specs.Formed.{FormedType, FormedField, FormedParam, FormedHeader, FormedContract, FormedProc, FormedInit, FormedItem}
use Rattle.type_trees.specs.Trees as trees
use Rattle.area_types.specs.Syntax as types
use Rattle.area_types.specs.Syntax.{ValueType, Area, StructType}
use Rattle.area_types.specs.Tables.{is_small}
use Rattle.area_types.specs.Trees.{fields_of, trees_of}
use Rattle.area_types.specs.declared.region.Region.{Region}
use Rattle.area_types.specs.declared.region.Region.TheVariants.{Global, Param}
use Rattle.bit_data.specs.Layouts.{is_filled, bits_of, is_name_of, first_fault, faultless, placed_from}
use Rattle.bit_data.specs.declared.FieldWish.{FieldWish}
use Rattle.bit_data.specs.declared.BitLayout.{BitLayout}
use Rattle.bit_data.specs.declared.LayoutFault.TheVariants.{WidthSum, TwiceNamed, EmptyField}
use Rattle.control_effects.specs.Falling.{block_falls}
use Rattle.core_tree.specs.Syntax.{AreaCore, ImportCore, ContractCore, ProcCore}
use Rattle.source_types.specs.Environments.{Earlier, AreaDeclared, Callee, words, has_word, is_item}
use Rattle.source_types.specs.Items.{after}
use Rattle.source_types.specs.Values.{is_plain}
use Rattle.source_types.specs.Written.{with_region, with_regions, region_in, type_in, area_in, regions_of, has_result, field_in, callee_in}
use Rattle.rule_faults.specs.Contexts as faults
use Rattle.rule_faults.specs.Wants.{Wants}
use Rattle.rule_faults.specs.Nodes.{Use, Boundary, Exported, Imported, Inner, ForParam, ForResult, AnItem, ABitField, AField, AParam, AType, AContract, ABlock}
use Rattle.rule_faults.specs.Tests.{where_there}
use Rattle.rule_faults.specs.ItemRules.{type_but_region, gives_other_cells, written_struct}
use Rattle.rule_faults.specs.ExpressionRows.{expr_row, type_row, area_row}
use Rattle.rule_faults.specs.StatementRows.{block_row, stmts_row}
use Rattle.rule_faults.specs.ItemRows as rows
use Rattle.rule_faults.specs.ItemRows.{bit_fields_row, fields_row, params_row, result_row, header_row, contracts_row, body_row, proc_row, boundary_of, init_rows, within_item, items_row}
use Rattle.rule_faults.specs.FirstFault.{first_of}
use Rattle.typing_rules.specs.Environments.{Env, with_local}
use Rattle.typing_rules.specs.Contexts.{context_of}
use Rattle.typing_rules.specs.Sites.{first_token}
use Rattle.typing_rules.specs.Items as item
use Rattle.typing_rules.specs.Items.{wish_of, StandsBits, Fields, StandsStruct, FirstValues, StandsArea, Params, Results, StandsHeader, none_or_plain, plain_result, writes_plain, StandsImport, with_params, param_cores, behind_header, in_body, at_contract, contract_site, contract_bytes, Contracts, StandsProc}
use Rattle.typing_rules.specs.WellTyped as module_rule
use Rattle.typing_rules.specs.WellTyped.{outside, at_header, StandItems}
use Rattle.typing_laws.proofs.Lookups.{any_last, neither}
use Rattle.typing_laws.proofs.CleanItems.{but_region, crosses, leaves, leave, at_place, Agrees, agrees_next, behind_agrees, fields_there, field_at, same_widths, results_agree, params_keep}
use Rattle.typing_laws.proofs.Callees.{AllDetermined, determined_last, header_determined}
use Rattle.typing_laws.proofs.Judged.{Judged, cons_parts, row_parts, sure, no_test}
use Rattle.typing_laws.proofs.Made.{MadeType, MadeArea, more_type, more_area, EachField, EachStruct, AreaThere, EachArea, MadeMaybe, EachParam, CalleeThere, EachCallee, Given, Ready}
use Rattle.typing_laws.proofs.Typed.{There, any_placed, can, wanted_typed}
use Rattle.typing_laws.proofs.TypedAreas.{area_typed, RegionThere, type_named}
use Rattle.typing_laws.proofs.TypedCalls.{same_self}
use Rattle.typing_laws.proofs.TypedStatements.{init_typed, with_local_ready, block_typed}

-- ---- more is declared

more_fields : (b s c d : ℕ) → b ≤ c → s ≤ d → (fs : List types.Field) → EachField (λ (f : types.Field). MadeArea b s f.area) fs → EachField (λ (f : types.Field). MadeArea c d f.area) fs
more_fields b s c d h k [] m = tt
more_fields b s c d h k (f ∷ fs) m = (more_area b s c d h k f.area m.0, more_fields b s c d h k fs m.1)

more_structs : (b s c d : ℕ) → b ≤ c → s ≤ d → (ss : List StructType) → EachStruct (λ (f : types.Field). MadeArea b s f.area) ss → EachStruct (λ (f : types.Field). MadeArea c d f.area) ss
more_structs b s c d h k [] m = tt
more_structs b s c d h k (x ∷ ss) m = (more_fields b s c d h k x.fields m.0, more_structs b s c d h k ss m.1)

more_areas : (b s c d : ℕ) → b ≤ c → s ≤ d → (xs : List AreaDeclared) → EachArea b s xs → EachArea c d xs
more_areas b s c d h k [] m = tt
more_areas b s c d h k (x ∷ xs) m = (record { area = m.0.area; there = m.0.there; is_made = more_area b s c d h k m.0.area m.0.is_made }, more_areas b s c d h k xs m.1)

more_params : (b s c d : ℕ) → b ≤ c → s ≤ d → (ps : List (Option ValueType)) → EachParam b s ps → EachParam c d ps
more_params b s c d h k [] m = tt
more_params b s c d h k (None ∷ ps) m = m
more_params b s c d h k (Some t ∷ ps) m = (more_type b s c d h k t m.0, more_params b s c d h k ps m.1)

more_maybe : (b s c d : ℕ) → b ≤ c → s ≤ d → (o : Option ValueType) → MadeMaybe b s o → MadeMaybe c d o
more_maybe b s c d h k None m = tt
more_maybe b s c d h k (Some t) m = more_type b s c d h k t m

more_callees : (b s c d : ℕ) → b ≤ c → s ≤ d → (xs : List Callee) → EachCallee b s xs → EachCallee c d xs
more_callees b s c d h k [] m = tt
more_callees b s c d h k (x ∷ xs) m =
    (record { params = more_params b s c d h k x.params m.0.params; result = more_maybe b s c d h k x.result m.0.result; gives = m.0.gives }, more_callees b s c d h k xs m.1)

last_struct : (P : types.Field → Type 0) (ss : List StructType) (x : StructType) → EachStruct P ss → EachField P x.fields → EachStruct P (ss ++ x ∷ [])
last_struct P [] x h k = (k, tt)
last_struct P (y ∷ ss) x h k = (h.0, last_struct P ss x h.1 k)

last_area : (b s : ℕ) (xs : List AreaDeclared) (x : AreaDeclared) → EachArea b s xs → AreaThere b s x → EachArea b s (xs ++ x ∷ [])
last_area b s [] x h k = (k, tt)
last_area b s (y ∷ xs) x h k = (h.0, last_area b s xs x h.1 k)

last_callee : (b s : ℕ) (xs : List Callee) (x : Callee) → EachCallee b s xs → CalleeThere b s x → EachCallee b s (xs ++ x ∷ [])
last_callee b s [] x h k = (k, tt)
last_callee b s (y ∷ xs) x h k = (h.0, last_callee b s xs x h.1 k)

longer : {A : Type 0} (xs : List A) (x : A) → length xs ≤ length (xs ++ x ∷ [])
longer xs x = omega (arith, length-append xs (x ∷ []))

more_given : (earlier : Earlier) (bits : List BitsItem) (structs : List StructType) → length earlier.bits ≤ length bits → length earlier.structs ≤ length structs → Given earlier
    → EachStruct (λ (f : types.Field). MadeArea (length bits) (length structs) f.area) structs → Given (record earlier { bits = bits; structs = structs })
more_given earlier bits structs h k g ss = record {
  structs = ss;
  areas = more_areas (length earlier.bits) (length earlier.structs) (length bits) (length structs) h k earlier.areas g.areas;
  callees = more_callees (length earlier.bits) (length earlier.structs) (length bits) (length structs) h k earlier.callees g.callees;
}

-- ---- bit data

bit_faults : (fields : List BitField) (names : List Word) (before : List FieldWish) → ((name : Word) → is_name_of before name ≡ has_word names name) → first_of (bit_fields_row names fields) ≡ None → first_fault before (map wish_of fields) ≡ None
bit_faults [] names before agrees h = refl
bit_faults (f ∷ fields) names before agrees h =
    let p = cons_parts (ABitField names f) (bit_fields_row (names ++ f.name.text ∷ []) fields) h in
    ap (λ b. cond b (Some (TwiceNamed (length before))) (cond (nat_eq f.width 0) (Some (EmptyField (length before))) (first_fault (before ++ wish_of f ∷ []) (map wish_of fields)))) (agrees f.name.text ∙ p.first.r3)
    ∙ ap (λ b. cond b (Some (EmptyField (length before))) (first_fault (before ++ wish_of f ∷ []) (map wish_of fields))) p.first.r11
    ∙ bit_faults fields (names ++ f.name.text ∷ []) (before ++ wish_of f ∷ []) next p.rest
  where
    next : (name : Word) → is_name_of (before ++ wish_of f ∷ []) name ≡ has_word (names ++ f.name.text ∷ []) name
    next name =
        any_last (λ (w : FieldWish). same_word w.name name) before (wish_of f)
        ∙ ap (λ b. b || same_word f.name.text name) (agrees name)
        ∙ sym (any_last (λ n. same_word n name) names f.name.text)

unsigned_and_full : (signed full : Bool) → signed || not full ≡ false → not signed && full ≡ true
unsigned_and_full false true h = refl
unsigned_and_full false false h = let no : ⊥ = cc in absurd no
unsigned_and_full true full h = let no : ⊥ = cc in absurd no

bits_layout : BitsItem → BitLayout
bits_layout i = record { name = i.name.text; word = i.word; fields = placed_from 0 (map wish_of i.fields) }

bits_typed : (earlier : Earlier) (i : BitsItem) → Judged (AnItem earlier (syntax.BitsData i)) → first_of (bit_fields_row [] i.fields) ≡ None → StandsBits earlier i (bits_layout i)
unfolding bits_layout
bits_typed earlier i j h =
    let filled : is_filled i.word (map wish_of i.fields) ≡ true =
    unsigned_and_full (is_signed i.word) (nat_eq (bits_of (map wish_of i.fields)) (width i.word)) (ap (λ n. is_signed i.word || not (nat_eq n (width i.word))) (same_widths i.fields) ∙ j.r10) in
    record {
      unused = j.r2;
      name = refl;
      laid = ap (λ b. cond b (faultless (first_fault [] (map wish_of i.fields)) i.word (map wish_of i.fields)) (Err WidthSum)) filled
          ∙ ap (λ o. faultless o i.word (map wish_of i.fields)) (bit_faults i.fields [] [] (λ name. refl) h);
    }

-- ---- structs

record FieldsTyped (earlier : Earlier) (before : List Word) (fields : List FieldSyntax) : Type 0 where
  rest : List types.Field
  stand : Fields earlier before fields rest
  each : EachField (λ (f : types.Field). MadeArea (length earlier.bits) (length earlier.structs) f.area) rest

fields_typed : (earlier : Earlier) (before : List Word) (fields : List FieldSyntax) → All FormedField fields → first_of (fields_row earlier before fields) ≡ None → FieldsTyped earlier before fields
fields_typed earlier before [] f h = record { rest = []; stand = item.no_fields; each = tt }
fields_typed earlier before (x ∷ fields) f h =
    let later = fields_row earlier (before ++ x.name.text ∷ []) fields in
    let p = cons_parts (AField before x) (area_row earlier x.area ++ later) h in
    let r = row_parts (area_row earlier x.area) later p.rest in
    let a = area_typed earlier x.area (All-head FormedField x fields f) r.0 in
    let more = fields_typed earlier (before ++ x.name.text ∷ []) fields (All-tail FormedField x fields f) r.1 in
    record { rest = field_at x a.area ∷ more.rest; stand = item.more_fields p.first.r3 a.names more.stand; each = (a.is_made, more.each) }

record StructTyped (earlier : Earlier) (i : StructSyntax) : Type 0 where
  stands : StandsStruct earlier i
  each : EachField (λ (f : types.Field). MadeArea (length earlier.bits) (length earlier.structs) f.area) (filter_map (field_in earlier) i.fields)

struct_typed : (earlier : Earlier) (i : StructSyntax) → All FormedField i.fields → Judged (AnItem earlier (syntax.Struct i)) → first_of (fields_row earlier [] i.fields) ≡ None → StructTyped earlier i
struct_typed earlier i f j h =
    let p = fields_typed earlier [] i.fields f h in
    let q = fields_there p.stand in
    let tree = λ (fs : List types.Field). trees.Struct (length earlier.structs) (fields_of (trees_of earlier.structs) fs) in
    let known : written_struct earlier i.fields ≡ Some (tree p.rest) = ap (λ b. cond b (Some (tree (filter_map (field_in earlier) i.fields))) None) q.0 ∙ ap (λ fs. Some (tree fs)) q.1 in
    record {
      stands = record { unused = j.r2; fields = p.rest; stand = p.stand; small = sure (is_small (words earlier) (tree p.rest)) (no_test (written_struct earlier i.fields) (tree p.rest) (λ a. not (is_small (words earlier) a)) known j.r9) };
      each = subst (EachField (λ (x : types.Field). MadeArea (length earlier.bits) (length earlier.structs) x.area)) (sym q.1) p.each;
    }

-- ---- areas of the module

outside_ready : (names : List Word) (earlier : Earlier) → Given earlier → Ready (outside names earlier)
outside_ready names earlier g = (g, tt, tt)

record GlobalTyped (names : List Word) (earlier : Earlier) (i : GlobalSyntax) : Type 0 where
  core : AreaCore
  stands : StandsArea (outside names earlier) i core
  there : AreaThere (length earlier.bits) (length earlier.structs) (record { name = i.name.text; constant = i.constant; area = area_in earlier i.area })

record FirstTyped (env : Env) (a : Area) (init : Option InitSyntax) : Type 0 where
  values : List ℤ
  first : FirstValues env a init values

first_typed : (env : Env) → Ready env → (a : Area) → MadeArea (length env.earlier.bits) (length env.earlier.structs) a → (init : Option InitSyntax) → IfSome init FormedInit → first_of (init_rows (context_of env) (Some a) init) ≡ None → FirstTyped env a init
first_typed env m a made None f h = record { values = _; first = item.zero }
first_typed env m a made (Some i) f h = let r = init_typed env m i f true a made h in record { values = _; first = item.given (r.constants refl) r.fills }

global_typed : (names : List Word) (earlier : Earlier) (i : GlobalSyntax) → Given earlier → FormedItem (syntax.Global i) → Judged (AnItem earlier (syntax.Global i)) → first_of (within_item (faults.outside names earlier) (syntax.Global i)) ≡ None
    → GlobalTyped names earlier i
global_typed names earlier i g f j h =
    let r = row_parts (area_row earlier i.area) (init_rows (faults.outside names earlier) (area_in earlier i.area) i.init) h in
    let a = area_typed earlier i.area f.0 r.0 in
    let v = first_typed (outside names earlier) (outside_ready names earlier g) a.area a.is_made i.init f.1 (ap (λ o. first_of (init_rows (faults.outside names earlier) o i.init)) (sym a.names.exists) ∙ r.1) in
    record {
      core = record { name = i.name.text; constant = i.constant; area = a.area; first = v.values };
      stands = record { unused = j.r1; name = refl; constant = refl; area = a.names; first = v.first };
      there = record { area = a.area; there = a.names.exists; is_made = a.is_made };
    }

-- ---- regions of parameters

abbrev AllRegions : List Word → List ParamSyntax → Type 0
AllRegions regions [] = Unit {0}
AllRegions regions (p ∷ ps) = RegionThere regions p.ty × AllRegions regions ps

kept_once : (names : List Word) (ty : TypeSyntax) (name : Word) → has_word names name ≡ true → has_word (with_region names ty) name ≡ true
kept_once names (TruthType s) name h = h
kept_once names (IntType s k) name h = h
kept_once names (IndexType s n) name h = h
kept_once names (BitsType s w) name h = h
kept_once names (RefType s c region.Global a) name h = h
kept_once names (RefType s c (region.Named text) a) name h = go (has_word names text)
  where
    go : (b : Bool) → has_word (cond b names (names ++ text ∷ [])) name ≡ true
    go true = h
    go false = any_last (λ n. same_word n name) names text ∙ ap (λ b. b || same_word text name) h

kept_all : (params : List ParamSyntax) (names : List Word) (name : Word) → has_word names name ≡ true → has_word (with_regions names params) name ≡ true
kept_all [] names name h = h
kept_all (p ∷ ps) names name h = kept_all ps (with_region names p.ty) name (kept_once names p.ty name h)

or_true : (b : Bool) → b || true ≡ true
or_true true = refl
or_true false = refl

added_region : (names : List Word) (s : Span) (c : Bool) (text : Word) (a : AreaSyntax) → has_word (with_region names (RefType s c (region.Named text) a)) text ≡ true
added_region names s c text a = go (has_word names text) refl
  where
    go : (b : Bool) → has_word names text ≡ b → has_word (cond b names (names ++ text ∷ [])) text ≡ true
    go true e = e
    go false e = any_last (λ n. same_word n text) names text ∙ ap (λ b. has_word names text || b) (same_self text) ∙ or_true (has_word names text)

word_region : (regions : List Word) (name : Word) → has_word regions name ≡ true → There Region (region_in regions (region.Named name))
word_region regions name h = let p = any_placed (λ n. same_word n name) 0 regions h in record { value = Param p.number; at = ap (option_map Param) p.at }

one_region : (names : List Word) (ps : List ParamSyntax) (ty : TypeSyntax) → RegionThere (with_regions (with_region names ty) ps) ty
one_region names ps (TruthType s) = tt
one_region names ps (IntType s k) = tt
one_region names ps (IndexType s n) = tt
one_region names ps (BitsType s w) = tt
one_region names ps (RefType s c region.Global a) = record { value = Global; at = refl }
one_region names ps (RefType s c (region.Named text) a) =
    word_region (with_regions (with_region names (RefType s c (region.Named text) a)) ps) text (kept_all ps (with_region names (RefType s c (region.Named text) a)) text (added_region names s c text a))

all_regions : (params : List ParamSyntax) (names : List Word) → AllRegions (with_regions names params) params
all_regions [] names = tt
all_regions (p ∷ ps) names = (one_region names ps p.ty, all_regions ps (with_region names p.ty))

-- ---- headers

type_head : (earlier : Earlier) (regions : List Word) (place : Use) (ty : TypeSyntax) → first_of (type_row earlier regions place ty) ≡ None → Judged (AType earlier regions place ty)
type_head earlier regions place (TruthType s) h = (cons_parts (AType earlier regions place (TruthType s)) [] h).first
type_head earlier regions place (IntType s k) h = (cons_parts (AType earlier regions place (IntType s k)) [] h).first
type_head earlier regions place (IndexType s n) h = (cons_parts (AType earlier regions place (IndexType s n)) [] h).first
type_head earlier regions place (BitsType s w) h = (cons_parts (AType earlier regions place (BitsType s w)) [] h).first
type_head earlier regions place (RefType s c r a) h = (cons_parts (AType earlier regions place (RefType s c r a)) (area_row earlier a) h).first

plain_there : (earlier : Earlier) (regions : List Word) (ty : TypeSyntax) (t : ValueType) → type_in earlier regions ty ≡ Some t → where_there (type_but_region earlier ty) (λ x. not (is_plain x)) ≡ false → is_plain t ≡ true
plain_there earlier regions ty t h k = let p = but_region earlier regions ty t h in sym p.plain ∙ sure (is_plain p.other) (no_test (type_but_region earlier ty) p.other (λ x. not (is_plain x)) p.there k)

param_crosses : (boundary : Boundary) (earlier : Earlier) (regions : List Word) (ty : TypeSyntax) (t : ValueType) → type_in earlier regions ty ≡ Some t → Judged (AType earlier regions (ForParam boundary) ty) → crosses boundary earlier t ≡ true
param_crosses Exported earlier regions ty t h j = plain_there earlier regions ty t h j.r13
param_crosses Imported earlier regions ty t h j =
    let p = but_region earlier regions ty t h in
    sure (writes_plain earlier t) (sym p.cells ∙ no_test (type_but_region earlier ty) p.other (gives_other_cells earlier) p.there j.r14)
param_crosses Inner earlier regions ty t h j = refl

result_leaves : (boundary : Boundary) (earlier : Earlier) (regions : List Word) (ty : TypeSyntax) (t : ValueType) → type_in earlier regions ty ≡ Some t → Judged (AType earlier regions (ForResult boundary) ty) → leaves boundary t ≡ true
result_leaves Exported earlier regions ty t h j = plain_there earlier regions ty t h j.r13
result_leaves Imported earlier regions ty t h j = plain_there earlier regions ty t h j.r14
result_leaves Inner earlier regions ty t h j = refl

result_region : (boundary : Boundary) (earlier : Earlier) (regions : List Word) (ty : TypeSyntax) → Judged (AType earlier regions (ForResult boundary) ty) → RegionThere regions ty
result_region boundary earlier regions (TruthType s) j = tt
result_region boundary earlier regions (IntType s k) j = tt
result_region boundary earlier regions (IndexType s n) j = tt
result_region boundary earlier regions (BitsType s w) j = tt
result_region boundary earlier regions (RefType s c region.Global a) j = record { value = Global; at = refl }
result_region boundary earlier regions (RefType s c (region.Named name) a) j = word_region regions name (sure (has_word regions name) j.r12)

abbrev EachType : (b s : ℕ) → List ValueType → Type 0
EachType b s [] = Unit {0}
EachType b s (t ∷ ts) = MadeType b s t × EachType b s ts

record ParamsTyped (env : Env) (boundary : Boundary) (before : List Word) (params : List ParamSyntax) : Type 0 where
  params_types : List ValueType
  stand : Params env before params params_types
  crossing : list_all (crosses boundary env.earlier) params_types ≡ true
  each : EachType (length env.earlier.bits) (length env.earlier.structs) params_types
  there : EachParam (length env.earlier.bits) (length env.earlier.structs) (map (λ (p : ParamSyntax). type_in env.earlier env.regions p.ty) params)

first_there : (b s : ℕ) (o : Option ValueType) (ps : List (Option ValueType)) (t : ValueType) → o ≡ Some t → MadeType b s t → EachParam b s ps → EachParam b s (o ∷ ps)
first_there b s o ps t h m k = subst (λ x. EachParam b s (x ∷ ps)) (sym h) (m, k)

params_typed : (env : Env) (boundary : Boundary) (before : List Word) (params : List ParamSyntax) → AllRegions env.regions params → All FormedParam params → (gives : Bool) (result : Option ValueType) (scope : List faults.Local) → Agrees scope before
    → first_of (params_row (at_place env gives result scope) boundary params) ≡ None → ParamsTyped env boundary before params
params_typed env boundary before [] regions f gives result scope agrees h = record { params_types = []; stand = item.no_params; crossing = refl; each = tt; there = tt }
params_typed env boundary before (p ∷ params) regions f gives result scope agrees h =
    let b = length env.earlier.bits in
    let s = length env.earlier.structs in
    let l : faults.Local = record { name = p.name.text; ty = type_in env.earlier env.regions p.ty } in
    let next = at_place env gives result (scope ++ l ∷ []) in
    let tr = type_row env.earlier env.regions (ForParam boundary) p.ty in
    let q = cons_parts (AParam (at_place env gives result scope) p) (tr ++ params_row next boundary params) h in
    let r = row_parts tr (params_row next boundary params) q.rest in
    let free = neither (has_word env.names p.name.text) (list_any (λ (x : faults.Local). same_word x.name p.name.text) scope) q.first.r1 in
    let t = type_named env.earlier env.regions (ForParam boundary) p.ty (All-head FormedParam p params f) regions.0 r.0 in
    let more = params_typed env boundary (before ++ p.name.text ∷ []) params regions.1 (All-tail FormedParam p params f) gives result (scope ++ l ∷ []) (agrees_next scope before l agrees) r.1 in
    let cross = param_crosses boundary env.earlier env.regions p.ty t.value t.names.exists (type_head env.earlier env.regions (ForParam boundary) p.ty r.0) in
    record {
      params_types = t.value ∷ more.params_types;
      stand = item.more_params free.0 (sym (agrees p.name.text) ∙ free.1) t.names more.stand;
      crossing = ap (λ x. x && list_all (crosses boundary env.earlier) more.params_types) cross ∙ more.crossing;
      each = (t.is_made, more.each);
      there = first_there b s (type_in env.earlier env.regions p.ty) (map (λ (x : ParamSyntax). type_in env.earlier env.regions x.ty) params) t.value t.names.exists t.is_made more.there;
    }

record ResultTyped (env : Env) (boundary : Boundary) (text : Option TypeSyntax) : Type 0 where
  result : Option ValueType
  stand : Results env text result
  leaving : leave boundary result ≡ true
  is_made : MadeMaybe (length env.earlier.bits) (length env.earlier.structs) result

result_typed : (env : Env) (boundary : Boundary) (text : Option TypeSyntax) → IfSome text FormedType → (gives : Bool) (result : Option ValueType) (scope : List faults.Local) → first_of (result_row (at_place env gives result scope) boundary text) ≡ None
    → ResultTyped env boundary text
result_typed env boundary None f gives result scope h = record { result = None; stand = item.no_result; leaving = refl; is_made = tt }
result_typed env boundary (Some ty) f gives result scope h =
    let j = type_head env.earlier env.regions (ForResult boundary) ty h in
    let t = type_named env.earlier env.regions (ForResult boundary) ty f (result_region boundary env.earlier env.regions ty j) h in
    record { result = Some t.value; stand = item.a_result t.names; leaving = result_leaves boundary env.earlier env.regions ty t.value t.names.exists j; is_made = t.is_made }

record HeaderTyped (names : List Word) (earlier : Earlier) (h : HeaderSyntax) (boundary : Boundary) : Type 0 where
  params : ParamsTyped (at_header names earlier h) boundary [] h.params
  result : ResultTyped (at_header names earlier h) boundary h.result

header_typed : (names : List Word) (earlier : Earlier) (h : HeaderSyntax) (boundary : Boundary) → FormedHeader h → first_of (header_row (faults.outside names earlier) boundary h) ≡ None → HeaderTyped names earlier h boundary
header_typed names earlier h boundary f k =
    let gives = has_result h.result in
    let result = option_and_then (type_in earlier (regions_of h.params)) h.result in
    let here = at_place (at_header names earlier h) gives result [] in
    let r = row_parts (params_row here boundary h.params) (result_row here boundary h.result) k in
    record {
      params = params_typed (at_header names earlier h) boundary [] h.params (all_regions h.params []) f.0 gives result [] (λ name. refl) r.0;
      result = result_typed (at_header names earlier h) boundary h.result f.1 gives result [] r.1;
    }

none_not : (o : Option ValueType) → is_some o ≡ true → o ≡ None → ⊥
none_not o h k = let no : false ≡ true = ap is_some (sym k) ∙ h in let absurdity : ⊥ = cc in absurdity

header_there : (names : List Word) (earlier : Earlier) (import : Bool) (h : HeaderSyntax) (boundary : Boundary) → HeaderTyped names earlier h boundary → CalleeThere (length earlier.bits) (length earlier.structs) (callee_in earlier import h)
header_there names earlier import h boundary t =
    let e = results_agree t.result.stand in
    record { params = t.params.there; result = subst (MadeMaybe (length earlier.bits) (length earlier.structs)) e.1 t.result.is_made; gives = λ g n. none_not t.result.result (e.0 ∙ g) (e.1 ∙ n) }

header_stands : (names : List Word) (earlier : Earlier) (h : HeaderSyntax) (boundary : Boundary) (t : HeaderTyped names earlier h boundary) → is_item earlier h.name.text ≡ false → StandsHeader (at_header names earlier h) h t.params.params_types t.result.result
header_stands names earlier h boundary t unused = record { unused = unused; params_stand = t.params.stand; result_stands = t.result.stand }

-- ---- procedures

record ContractsTyped (env : Env) (cs : List ContractSyntax) : Type 0 where
  cores : List ContractCore
  stand : Contracts env cs cores

contracts_typed : (env : Env) → Ready env → (cs : List ContractSyntax) → All FormedContract cs → first_of (contracts_row (context_of env) cs) ≡ None → ContractsTyped env cs
contracts_typed env m [] f h = record { cores = []; stand = item.no_contracts }
contracts_typed env m (c ∷ cs) f h =
    let er = expr_row (context_of (at_contract env c)) (Wants types.Truth) c.cond in
    let p = cons_parts (AContract c) (er ++ contracts_row (context_of env) cs) h in
    let r = row_parts er (contracts_row (context_of env) cs) p.rest in
    let u = wanted_typed (can (at_contract env c) m c.cond (All-head FormedContract c cs f).1) types.Truth refl r.0 in
    let more = contracts_typed env m cs (All-tail FormedContract c cs f) r.1 in
    record {
      cores = record { before = c.before; cond = u.core; check = record { site = 0; kind = contract_site c.before; span = first_token c.span (contract_bytes c.before) } } ∷ more.cores;
      stand = item.more_contracts (record { before = refl; cond = u.under; check = (refl, refl) }) more.stand;
    }

params_ready : (env : Env) (params : List ParamSyntax) (ts : List ValueType) → Ready env → EachType (length env.earlier.bits) (length env.earlier.structs) ts → Ready (with_params env params ts)
params_ready env [] ts m each = m
params_ready env (p ∷ params) [] m each = m
params_ready env (p ∷ params) (t ∷ ts) m each = params_ready (with_local env p.name.text t) params ts (with_local_ready env p.name.text t m each.0) each.1

no_falling : (gives falls : Bool) → gives && falls ≡ false → gives ≡ true → falls ≡ false
no_falling gives falls h g = sym (ap (λ b. b && falls) g) ∙ h

block_head : (env : Env) (w : Bool) (b : syntax.BlockSyntax) → first_of (block_row (context_of env) w b) ≡ None → w && block_falls b ≡ false
block_head env w (syntax.Braces s stmts) h = (cons_parts (ABlock w (syntax.Braces s stmts)) (stmts_row (context_of env) true stmts) h).first.r44

plain_exported : (earlier : Earlier) (exported : Bool) (ts : List ValueType) (r : Option ValueType) → list_all (crosses (boundary_of exported) earlier) ts ≡ true → leave (boundary_of exported) r ≡ true → exported ≡ true → IsTrue (list_all is_plain ts && none_or_plain r)
plain_exported earlier true ts None h k e = ap (λ b. b && true) h
plain_exported earlier true ts (Some t) h k e = ap (λ b. b && is_plain t) h ∙ k
plain_exported earlier false ts r h k e = let no : ⊥ = cc in absurd no

record ProcTyped (names : List Word) (earlier : Earlier) (p : ProcSyntax) : Type 0 where
  core : ProcCore
  stands : StandsProc (at_header names earlier p.header) p core
  there : CalleeThere (length earlier.bits) (length earlier.structs) (callee_in earlier false p.header)

proc_typed : (names : List Word) (earlier : Earlier) (p : ProcSyntax) → Given earlier → AllDetermined earlier.callees → FormedProc p → is_item earlier p.header.name.text ≡ false → first_of (proc_row (faults.outside names earlier) p) ≡ None
    → ProcTyped names earlier p
proc_typed names earlier p g d f unused h =
    let ctx = rows.with_params (rows.at_header (faults.outside names earlier) p.header) p.header.params in
    let hr = header_row (faults.outside names earlier) (boundary_of p.exported) p.header in
    let r = row_parts hr (body_row ctx p) h in
    let t = header_typed names earlier p.header (boundary_of p.exported) f.0 r.0 in
    let ts = t.params.params_types in
    let res = t.result.result in
    let header = header_stands names earlier p.header (boundary_of p.exported) t unused in
    let env0 = record (at_header names earlier p.header) { result = res } in
    let behind = behind_header (at_header names earlier p.header) p ts res in
    let kept = params_keep env0 p.header.params ts in
    let ready : Ready behind = params_ready env0 p.header.params ts (g, tt, t.result.is_made) t.params.each in
    let determined : AllDetermined behind.earlier.callees = subst (λ (e : Earlier). AllDetermined e.callees) (sym kept.earlier) d in
    let row : first_of (body_row (context_of behind) p) ≡ None = ap (λ x. first_of (body_row x p)) (behind_agrees names earlier p ts res header) ∙ r.1 in
    let q = row_parts (contracts_row (context_of behind) p.contracts) (block_row (context_of (in_body behind)) (is_some behind.result) p.body) row in
    let cs = contracts_typed behind ready p.contracts f.1 q.0 in
    let b = block_typed p.body (in_body behind) ready determined f.2 (is_some behind.result) q.1 in
    let ends = λ (e : is_some res ≡ true). no_falling (is_some behind.result) (block_falls p.body) (block_head (in_body behind) (is_some behind.result) p.body q.1) (ap is_some kept.result ∙ e) in
    record {
      core = record { name = p.header.name.text; exported = p.exported; params = param_cores p.header.params ts; result = res; contracts = cs.cores; locals = b.last.locals; body = b.core };
      stands = record {
        types = ts;
        last = b.last;
        header = header;
        plain = plain_exported earlier p.exported ts res t.params.crossing t.result.leaving;
        contracts = cs.stand;
        body = b.stands;
        ends = ends;
        name = refl;
        exported = refl;
        params = refl;
        locals = refl;
      };
      there = header_there names earlier false p.header (boundary_of p.exported) t;
    }

-- ---- imports

record ImportTyped (names : List Word) (earlier : Earlier) (h : HeaderSyntax) : Type 0 where
  core : ImportCore
  stands : StandsImport (at_header names earlier h) h core
  there : CalleeThere (length earlier.bits) (length earlier.structs) (callee_in earlier true h)

left_plain : (r : Option ValueType) → leave Imported r ≡ true → none_or_plain r ≡ true
left_plain None h = refl
left_plain (Some t) h = h

import_typed : (names : List Word) (earlier : Earlier) (h : HeaderSyntax) → FormedHeader h → is_item earlier h.name.text ≡ false → first_of (header_row (faults.outside names earlier) Imported h) ≡ None → ImportTyped names earlier h
import_typed names earlier h f unused k =
    let t = header_typed names earlier h Imported f k in
    record {
      core = record { name = h.name.text; params = t.params.params_types; result = plain_result t.result.result };
      stands = record {
        result = t.result.result;
        header = header_stands names earlier h Imported t unused;
        name = refl;
        gives = refl;
        result_plain = left_plain t.result.result t.result.leaving;
        params_plain = t.params.crossing;
      };
      there = header_there names earlier true h Imported t;
    }

-- ---- items in a row

pub record ItemsTyped (names : List Word) (earlier : Earlier) (items : List ItemSyntax) : Type 0 where
  pub end : Earlier
  pub layouts : List BitLayout
  pub areas : List AreaCore
  pub imports : List ImportCore
  pub procs : List ProcCore
  pub stand : StandItems names earlier items end layouts areas imports procs

pub items_typed : (names : List Word) (items : List ItemSyntax) (earlier : Earlier) → Given earlier → AllDetermined earlier.callees → All FormedItem items → first_of (items_row names earlier items) ≡ None → ItemsTyped names earlier items
items_typed names [] earlier g d f h = record { end = earlier; layouts = []; areas = []; imports = []; procs = []; stand = module_rule.no_items }
items_typed names (syntax.BitsData i ∷ items) earlier g d f h =
    let p = cons_parts (AnItem earlier (syntax.BitsData i)) (bit_fields_row [] i.fields ++ items_row names (after earlier (syntax.BitsData i)) items) h in
    let r = row_parts (bit_fields_row [] i.fields) (items_row names (after earlier (syntax.BitsData i)) items) p.rest in
    let b = length earlier.bits in
    let s = length earlier.structs in
    let bits = earlier.bits ++ i ∷ [] in
    let given = more_given earlier bits earlier.structs (longer earlier.bits i) (le_refl s) g (more_structs b s (length bits) s (longer earlier.bits i) (le_refl s) earlier.structs g.structs) in
    let more = items_typed names items (after earlier (syntax.BitsData i)) given d (All-tail FormedItem (syntax.BitsData i) items f) r.1 in
    record { end = more.end; layouts = bits_layout i ∷ more.layouts; areas = more.areas; imports = more.imports; procs = more.procs; stand = module_rule.bits (bits_typed earlier i p.first r.0) more.stand }
items_typed names (syntax.Struct i ∷ items) earlier g d f h =
    let p = cons_parts (AnItem earlier (syntax.Struct i)) (fields_row earlier [] i.fields ++ items_row names (after earlier (syntax.Struct i)) items) h in
    let r = row_parts (fields_row earlier [] i.fields) (items_row names (after earlier (syntax.Struct i)) items) p.rest in
    let t = struct_typed earlier i (All-head FormedItem (syntax.Struct i) items f).1 p.first r.0 in
    let b = length earlier.bits in
    let s = length earlier.structs in
    let new : StructType = record { name = i.name.text; fields = filter_map (field_in earlier) i.fields } in
    let structs = earlier.structs ++ new ∷ [] in
    let grown = longer earlier.structs new in
    let P : types.Field → Type 0 = λ x. MadeArea b (length structs) x.area in
    let given = more_given earlier earlier.bits structs (le_refl b) grown g
    (last_struct P earlier.structs new (more_structs b s b (length structs) (le_refl b) grown earlier.structs g.structs) (more_fields b s b (length structs) (le_refl b) grown new.fields t.each)) in
    let more = items_typed names items (after earlier (syntax.Struct i)) given d (All-tail FormedItem (syntax.Struct i) items f) r.1 in
    record { end = more.end; layouts = more.layouts; areas = more.areas; imports = more.imports; procs = more.procs; stand = module_rule.struct t.stands more.stand }
items_typed names (syntax.Global i ∷ items) earlier g d f h =
    let within = within_item (faults.outside names earlier) (syntax.Global i) in
    let p = cons_parts (AnItem earlier (syntax.Global i)) (within ++ items_row names (after earlier (syntax.Global i)) items) h in
    let r = row_parts within (items_row names (after earlier (syntax.Global i)) items) p.rest in
    let t = global_typed names earlier i g (All-head FormedItem (syntax.Global i) items f) p.first r.0 in
    let given : Given (after earlier (syntax.Global i)) = record { structs = g.structs; areas = last_area (length earlier.bits) (length earlier.structs) earlier.areas _ g.areas t.there; callees = g.callees } in
    let more = items_typed names items (after earlier (syntax.Global i)) given d (All-tail FormedItem (syntax.Global i) items f) r.1 in
    record { end = more.end; layouts = more.layouts; areas = t.core ∷ more.areas; imports = more.imports; procs = more.procs; stand = module_rule.area t.stands more.stand }
items_typed names (syntax.Import x ∷ items) earlier g d f h =
    let within = header_row (faults.outside names earlier) Imported x in
    let p = cons_parts (AnItem earlier (syntax.Import x)) (within ++ items_row names (after earlier (syntax.Import x)) items) h in
    let r = row_parts within (items_row names (after earlier (syntax.Import x)) items) p.rest in
    let t = import_typed names earlier x (All-head FormedItem (syntax.Import x) items f) p.first.r1 r.0 in
    let c = callee_in earlier true x in
    let given : Given (after earlier (syntax.Import x)) = record { structs = g.structs; areas = g.areas; callees = last_callee (length earlier.bits) (length earlier.structs) earlier.callees c g.callees t.there } in
    let determined = determined_last earlier.callees c d (header_determined names earlier true x t.core.params t.stands.header.params_stand) in
    let more = items_typed names items (after earlier (syntax.Import x)) given determined (All-tail FormedItem (syntax.Import x) items f) r.1 in
    record { end = more.end; layouts = more.layouts; areas = more.areas; imports = t.core ∷ more.imports; procs = more.procs; stand = module_rule.import t.stands more.stand }
items_typed names (syntax.Procedure x ∷ items) earlier g d f h =
    let within = proc_row (faults.outside names earlier) x in
    let p = cons_parts (AnItem earlier (syntax.Procedure x)) (within ++ items_row names (after earlier (syntax.Procedure x)) items) h in
    let r = row_parts within (items_row names (after earlier (syntax.Procedure x)) items) p.rest in
    let t = proc_typed names earlier x g d (All-head FormedItem (syntax.Procedure x) items f) p.first.r1 r.0 in
    let c = callee_in earlier false x.header in
    let given : Given (after earlier (syntax.Procedure x)) = record { structs = g.structs; areas = g.areas; callees = last_callee (length earlier.bits) (length earlier.structs) earlier.callees c g.callees t.there } in
    let determined = determined_last earlier.callees c d (header_determined names earlier false x.header t.stands.types t.stands.header.params_stand) in
    let more = items_typed names items (after earlier (syntax.Procedure x)) given determined (All-tail FormedItem (syntax.Procedure x) items f) r.1 in
    record { end = more.end; layouts = more.layouts; areas = more.areas; imports = more.imports; procs = t.core ∷ more.procs; stand = module_rule.procedure t.stands more.stand }
