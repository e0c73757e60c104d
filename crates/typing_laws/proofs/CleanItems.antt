-- Items that stand break no rule.
use Rattle.std.proofs.Common.{◌≡◌, ℕ, ◌+◌, List, [], ◌∷◌, ◌++◌, length, map, Option, Some, None, option_map, option_and_then, is_some, Bool, true, false, cond, not, ◌&&◌, ◌||◌, refl, sym, ◌∙◌, ap, subst, IsTrue, IfSome, All, ℤ, nat_eq, sum_by, filter_map, fold, Ok, Err}
use Rattle.std.specs.List.{list_any, list_all, cons_option, position_from}
use Rattle.std.proofs.lemmas.List.Elements.{All-head, All-tail}
use Rattle.iv_words.specs.Words.{same_word}
use Rattle.iv_words.specs.Kinds.{width, is_signed}
use Rattle.iv_words.specs.declared.IntKind.{IntKind}
use Rattle.ivory_tree.specs.Syntax as syntax
use Rattle.ivory_tree.specs.Syntax.{Word, TypeSyntax, TruthType, IntType, IndexType, BitsType, RefType, FieldSyntax, StructSyntax, GlobalSyntax, ParamSyntax, HeaderSyntax, ContractSyntax, ProcSyntax, InitSyntax}
use Rattle.ivory_tree.specs.declared.items.BitField.{BitField}
use Rattle.ivory_tree.specs.declared.items.BitsItem.{BitsItem}
use Rattle.ivory_tree.specs.declared.types.RegionText.{RegionText}
use Rattle.ivory_tree.specs.declared.types.RegionText.TheVariants as region
use Rattle.ivory_tree.specs.Formed.{FormedType, FormedArea, FormedField, FormedParam, FormedHeader, FormedProc}
use Rattle.type_trees.specs.Trees as trees
use Rattle.area_types.specs.Syntax as types
use Rattle.area_types.specs.Syntax.{ValueType, Area}
use Rattle.area_types.specs.Tables.{is_small, is_length}
use Rattle.area_types.specs.Trees.{Written, WrittenRow, fields_of, trees_of}
use Rattle.area_types.specs.declared.region.Region.{Region}
use Rattle.area_types.specs.declared.region.Region.TheVariants.{Global, Param}
use Rattle.region_check.specs.Substitutions.{escapes}
use Rattle.bit_data.specs.Layouts.{laid_out, is_filled, bits_of, is_name_of, first_fault, faultless}
use Rattle.bit_data.specs.declared.FieldWish.{FieldWish}
use Rattle.bit_data.specs.declared.BitLayout.{BitLayout}
use Rattle.bit_data.specs.declared.LayoutFault.{LayoutFault}
use Rattle.bit_data.specs.declared.LayoutFault.TheVariants.{WidthSum, TwiceNamed, EmptyField}
use Rattle.control_effects.specs.Falling.{block_falls}
use Rattle.core_tree.specs.Syntax.{AreaCore, ImportCore, ContractCore, ProcCore}
use Rattle.source_types.specs.Environments.{Earlier, words, has_word}
use Rattle.source_types.specs.Values.{is_plain}
use Rattle.source_types.specs.Written.{region_in, type_in, area_in, ref_type, regions_of, has_result, field_in}
use Rattle.rule_faults.specs.Contexts as faults
use Rattle.rule_faults.specs.Contexts.{Context}
use Rattle.rule_faults.specs.Wants.{Wants}
use Rattle.rule_faults.specs.Nodes.{Boundary, Exported, Imported, Inner, ForParam, ForResult, AnItem, ABitField, AField, AParam, AType, AContract}
use Rattle.rule_faults.specs.Tests.{where_there}
use Rattle.rule_faults.specs.ItemRules.{type_but_region, plain_cells, plain_row, gives_other_cells, rule_9, rule_10, rule_12, rule_13, rule_14}
use Rattle.rule_faults.specs.ExpressionRows.{expr_row, type_row, area_row}
use Rattle.rule_faults.specs.StatementRows.{block_row}
use Rattle.rule_faults.specs.ItemRows as rows
use Rattle.rule_faults.specs.ItemRows.{bit_fields_row, fields_row, params_row, result_row, header_row, contracts_row, body_row, proc_row, boundary_of, init_rows}
use Rattle.rule_faults.specs.FirstFault.{first_of}
use Rattle.typing_rules.specs.Environments.{Env, with_local}
use Rattle.typing_rules.specs.Contexts.{context_of}
use Rattle.typing_rules.specs.Areas.{written}
use Rattle.typing_rules.specs.Items as item
use Rattle.typing_rules.specs.Items.{wish_of, StandsBits, Fields, StandsStruct, FirstValues, StandsArea, Params, Results, StandsHeader, none_or_plain, has_plain_cells, have_plain_cells, writes_plain, StandsImport, with_params, behind_header, in_body, at_contract, Contracts, StandsProc}
use Rattle.typing_rules.specs.WellTyped.{outside, at_header}
use Rattle.typing_laws.proofs.Lookups.{some_same, placed_any, any_last, and_both, mapped}
use Rattle.typing_laws.proofs.Quiet.{quiet_cons, quiet_append}
use Rattle.typing_laws.proofs.QuietNodes.{quiet_param, quiet_contract, quiet_bit_field, quiet_field}
use Rattle.typing_laws.proofs.Clean.{clean_under}
use Rattle.typing_laws.proofs.CleanAreas.{ref_parts, type_clean, named_area_clean}
use Rattle.typing_laws.proofs.CleanInits.{init_clean}
use Rattle.typing_laws.proofs.CleanStatements.{local_added, Stays, Fine, block_clean}
use Rattle.typing_laws.proofs.Callees.{AllDetermined}

-- ---- what crosses the boundary

mutual
  cells_same : (a : Written) → has_plain_cells a ≡ plain_cells a
  cells_same (trees.Leaf t) = refl
  cells_same (trees.Many n element) = cells_same element
  cells_same (trees.Struct k fields) = row_same fields

  row_same : (r : WrittenRow) → have_plain_cells r ≡ plain_row r
  row_same trees.End = refl
  row_same (trees.Field i a r) = ap (λ b. b && have_plain_cells r) (cells_same a) ∙ ap (λ b. plain_cells a && b) (row_same r)

ref_cells : (earlier : Earlier) (constant : Bool) (r q : Region) (a : Area) → gives_other_cells earlier (types.Ref constant r a) ≡ not (writes_plain earlier (types.Ref constant q a))
ref_cells earlier true r q a = refl
ref_cells earlier false r q a = ap not (sym (cells_same (written earlier a)))

gives_same : (earlier : Earlier) (t : ValueType) → gives_other_cells earlier t ≡ not (writes_plain earlier t)
gives_same earlier types.Truth = refl
gives_same earlier (types.Int k) = refl
gives_same earlier (types.Ix n) = refl
gives_same earlier (types.Bits k) = refl
gives_same earlier (types.Ref c r a) = ref_cells earlier c r r a

-- a type is judged whatever its region is
pub record ButRegion (earlier : Earlier) (ty : TypeSyntax) (t : ValueType) : Type 0 where
  pub other : ValueType
  pub there : type_but_region earlier ty ≡ Some other
  pub plain : is_plain other ≡ is_plain t
  pub cells : gives_other_cells earlier other ≡ not (writes_plain earlier t)

same_but : (earlier : Earlier) (ty : TypeSyntax) (t : ValueType) → type_but_region earlier ty ≡ Some t → ButRegion earlier ty t
same_but earlier ty t h = record { other = t; there = h; plain = refl; cells = gives_same earlier t }

pub but_region : (earlier : Earlier) (regions : List Word) (ty : TypeSyntax) (t : ValueType) → type_in earlier regions ty ≡ Some t → ButRegion earlier ty t
but_region earlier regions (TruthType s) t h = same_but earlier (TruthType s) t h
but_region earlier regions (IntType s k) t h = same_but earlier (IntType s k) t h
but_region earlier regions (IndexType s n) t h = same_but earlier (IndexType s n) t h
but_region earlier regions (BitsType s name) t h = same_but earlier (BitsType s name) t h
but_region earlier regions (RefType s c named area) t h =
    let p = ref_parts c (region_in regions named) (area_in earlier area) t h in
    record {
      other = types.Ref c Global p.target;
      there = ap (ref_type c (Some Global)) p.area_there;
      plain = ap is_plain (sym p.is);
      cells = ref_cells earlier c Global p.to p.target ∙ ap (λ u. not (writes_plain earlier u)) (sym p.is);
    }

abbrev pub crosses : Boundary → Earlier → ValueType → Bool
crosses Exported earlier t = is_plain t
crosses Imported earlier t = writes_plain earlier t
crosses Inner earlier t = true

abbrev pub leaves : Boundary → ValueType → Bool
leaves Exported t = is_plain t
leaves Imported t = is_plain t
leaves Inner t = true

plain_quiet : (earlier : Earlier) (regions : List Word) (ty : TypeSyntax) (t : ValueType) → type_in earlier regions ty ≡ Some t → is_plain t ≡ true → where_there (type_but_region earlier ty) (λ x. not (is_plain x)) ≡ false
plain_quiet earlier regions ty t h k = let p = but_region earlier regions ty t h in ap (λ o. where_there o (λ x. not (is_plain x))) p.there ∙ ap not (p.plain ∙ k)

param_13 : (boundary : Boundary) (earlier : Earlier) (regions : List Word) (ty : TypeSyntax) (t : ValueType) → type_in earlier regions ty ≡ Some t → crosses boundary earlier t ≡ true
    → rule_13 (AType earlier regions (ForParam boundary) ty) ≡ false
param_13 Exported earlier regions ty t h k = plain_quiet earlier regions ty t h k
param_13 Imported earlier regions ty t h k = refl
param_13 Inner earlier regions ty t h k = refl

param_14 : (boundary : Boundary) (earlier : Earlier) (regions : List Word) (ty : TypeSyntax) (t : ValueType) → type_in earlier regions ty ≡ Some t → crosses boundary earlier t ≡ true
    → rule_14 (AType earlier regions (ForParam boundary) ty) ≡ false
param_14 Exported earlier regions ty t h k = refl
param_14 Imported earlier regions ty t h k = let p = but_region earlier regions ty t h in ap (λ o. where_there o (gives_other_cells earlier)) p.there ∙ p.cells ∙ ap not k
param_14 Inner earlier regions ty t h k = refl

result_12 : (boundary : Boundary) (earlier : Earlier) (regions : List Word) (ty : TypeSyntax) (t : ValueType) → type_in earlier regions ty ≡ Some t → rule_12 (AType earlier regions (ForResult boundary) ty) ≡ false
result_12 boundary earlier regions (TruthType s) t h = refl
result_12 boundary earlier regions (IntType s k) t h = refl
result_12 boundary earlier regions (IndexType s n) t h = refl
result_12 boundary earlier regions (BitsType s name) t h = refl
result_12 boundary earlier regions (RefType s c region.Global area) t h = refl
result_12 boundary earlier regions (RefType s c (region.Named name) area) t h =
    let p = ref_parts c (region_in regions (region.Named name)) (area_in earlier area) t h in
    let q = mapped Param (position_from (λ n. same_word n name) 0 regions) p.to p.region_there in
    ap not (placed_any (λ n. same_word n name) 0 regions q.value q.there)

result_13 : (boundary : Boundary) (earlier : Earlier) (regions : List Word) (ty : TypeSyntax) (t : ValueType) → type_in earlier regions ty ≡ Some t → leaves boundary t ≡ true
    → rule_13 (AType earlier regions (ForResult boundary) ty) ≡ false
result_13 Exported earlier regions ty t h k = plain_quiet earlier regions ty t h k
result_13 Imported earlier regions ty t h k = refl
result_13 Inner earlier regions ty t h k = refl

result_14 : (boundary : Boundary) (earlier : Earlier) (regions : List Word) (ty : TypeSyntax) (t : ValueType) → type_in earlier regions ty ≡ Some t → leaves boundary t ≡ true
    → rule_14 (AType earlier regions (ForResult boundary) ty) ≡ false
result_14 Exported earlier regions ty t h k = refl
result_14 Imported earlier regions ty t h k = plain_quiet earlier regions ty t h k
result_14 Inner earlier regions ty t h k = refl

-- ---- headers

-- at a parameter or at the result
abbrev pub at_place : Env → (gives : Bool) → (result : Option ValueType) → List faults.Local → Context
at_place env gives result scope = record (context_of env) { gives = gives; result = result; scope = scope }

abbrev pub Agrees : List faults.Local → List Word → Type 0
Agrees scope before = (name : Word) → list_any (λ (l : faults.Local). same_word l.name name) scope ≡ has_word before name

pub agrees_next : (scope : List faults.Local) (before : List Word) (l : faults.Local) → Agrees scope before → Agrees (scope ++ l ∷ []) (before ++ l.name ∷ [])
agrees_next scope before l h name =
    any_last (λ (x : faults.Local). same_word x.name name) scope l
    ∙ ap (λ b. b || same_word l.name name) (h name)
    ∙ sym (any_last (λ n. same_word n name) before l.name)

param_free : (in_module in_scope : Bool) → in_module ≡ false → in_scope ≡ false → in_module || in_scope ≡ false
param_free in_module in_scope h k = ap (λ b. b || in_scope) h ∙ k

params_clean : {env : Env} {before : List Word} {params : List ParamSyntax} {ts : List ValueType} → Params env before params ts → (boundary : Boundary) → list_all (crosses boundary env.earlier) ts ≡ true → All FormedParam params
    → (gives : Bool) (result : Option ValueType) (scope : List faults.Local) → Agrees scope before → first_of (params_row (at_place env gives result scope) boundary params) ≡ None
params_clean item.no_params boundary h formed gives result scope agrees = refl
params_clean {env = env} {before = before} (item.more_params {p = p} {params = params} {t = t} {ts = ts} fresh again names more) boundary h formed gives result scope agrees =
    let parts = and_both (crosses boundary env.earlier t) (list_all (crosses boundary env.earlier) ts) h in
    let here = at_place env gives result scope in
    let l : faults.Local = record { name = p.name.text; ty = type_in env.earlier env.regions p.ty } in
    let next = at_place env gives result (scope ++ l ∷ []) in
    quiet_cons (AParam here p) (type_row env.earlier env.regions (ForParam boundary) p.ty ++ params_row next boundary params)
    (quiet_param here p (param_free (has_word env.names p.name.text) (list_any (λ (x : faults.Local). same_word x.name p.name.text) scope) fresh (agrees p.name.text ∙ again)))
    (quiet_append (type_row env.earlier env.regions (ForParam boundary) p.ty) (params_row next boundary params)
    (type_clean env.earlier env.regions (ForParam boundary) p.ty t (All-head FormedParam p params formed) names refl
    (param_13 boundary env.earlier env.regions p.ty t names.exists parts.0) (param_14 boundary env.earlier env.regions p.ty t names.exists parts.0))
    (params_clean more boundary parts.1 (All-tail FormedParam p params formed) gives result (scope ++ l ∷ []) (agrees_next scope before l agrees)))

abbrev pub leave : Boundary → Option ValueType → Bool
leave boundary None = true
leave boundary (Some t) = leaves boundary t

result_clean : {env : Env} {text : Option TypeSyntax} {r : Option ValueType} → Results env text r → (boundary : Boundary) → leave boundary r ≡ true → IfSome text FormedType
    → (gives : Bool) (result : Option ValueType) (scope : List faults.Local) → first_of (result_row (at_place env gives result scope) boundary text) ≡ None
result_clean item.no_result boundary h formed gives result scope = refl
result_clean {env = env} (item.a_result {text = text} {t = t} names) boundary h formed gives result scope =
    type_clean env.earlier env.regions (ForResult boundary) text t formed names (result_12 boundary env.earlier env.regions text t names.exists)
    (result_13 boundary env.earlier env.regions text t names.exists h) (result_14 boundary env.earlier env.regions text t names.exists h)

pub header_clean : (names : List Word) (earlier : Earlier) (h : HeaderSyntax) (ts : List ValueType) (r : Option ValueType) (boundary : Boundary) → StandsHeader (at_header names earlier h) h ts r
    → list_all (crosses boundary earlier) ts ≡ true → leave boundary r ≡ true → FormedHeader h → first_of (header_row (faults.outside names earlier) boundary h) ≡ None
header_clean names earlier h ts r boundary stands cross out formed =
    let gives = has_result h.result in
    let result = option_and_then (type_in earlier (regions_of h.params)) h.result in
    let here = at_place (at_header names earlier h) gives result [] in
    quiet_append (params_row here boundary h.params) (result_row here boundary h.result)
    (params_clean stands.params_stand boundary cross formed.0 gives result [] (λ name. refl))
    (result_clean stands.result_stands boundary out formed.1 gives result [])

-- ---- procedures

contracts_clean : {env : Env} {contracts : List ContractSyntax} {cores : List ContractCore} → Contracts env contracts cores → first_of (contracts_row (context_of env) contracts) ≡ None
contracts_clean item.no_contracts = refl
contracts_clean {env = env} (item.more_contracts {c = c} {contracts = contracts} h more) =
    let cond_row = expr_row (context_of (at_contract env c)) (Wants types.Truth) c.cond in
    quiet_cons (AContract c) (cond_row ++ contracts_row (context_of env) contracts) (quiet_contract c)
    (quiet_append cond_row (contracts_row (context_of env) contracts) (clean_under h.cond).wanted (contracts_clean more))

-- with the parameters both know the same
params_agree : {env : Env} {before : List Word} {params : List ParamSyntax} {ts : List ValueType} → Params env before params ts → (e : Env) → e.earlier ≡ env.earlier → e.regions ≡ env.regions
    → context_of (with_params e params ts) ≡ rows.with_params (context_of e) params
params_agree item.no_params e h k = refl
params_agree {env = env} (item.more_params {p = p} {params = params} {t = t} {ts = ts} fresh again names more) e h k =
    params_agree more (with_local e p.name.text t) h k
    ∙ ap (λ x. rows.with_params x params) (local_added e p.name.text t)
    ∙ ap (λ o. rows.with_params (faults.with_local (context_of e) p.name.text o) params) (sym (ap (λ x. type_in x e.regions p.ty) h ∙ ap (λ x. type_in env.earlier x p.ty) k ∙ names.exists))

pub record Kept (env : Env) (e : Env) : Type 0 where
  pub earlier : e.earlier ≡ env.earlier
  pub result : e.result ≡ env.result

pub params_keep : (env : Env) (params : List ParamSyntax) (ts : List ValueType) → Kept env (with_params env params ts)
params_keep env [] ts = record { earlier = refl; result = refl }
params_keep env (p ∷ params) [] = record { earlier = refl; result = refl }
params_keep env (p ∷ params) (t ∷ ts) = let k = params_keep (with_local env p.name.text t) params ts in record { earlier = k.earlier; result = k.result }

pub results_agree : {env : Env} {text : Option TypeSyntax} {r : Option ValueType} → Results env text r → (is_some r ≡ has_result text) × (r ≡ option_and_then (type_in env.earlier env.regions) text)
results_agree item.no_result = (refl, refl)
results_agree (item.a_result names) = (refl, sym names.exists)

pub behind_agrees : (names : List Word) (earlier : Earlier) (p : ProcSyntax) (ts : List ValueType) (r : Option ValueType) → StandsHeader (at_header names earlier p.header) p.header ts r
    → context_of (behind_header (at_header names earlier p.header) p ts r) ≡ rows.with_params (rows.at_header (faults.outside names earlier) p.header) p.header.params
behind_agrees names earlier p ts r h =
    let env = at_header names earlier p.header in
    let e = results_agree h.result_stands in
    params_agree h.params_stand (record env { result = r }) refl refl
    ∙ ap (λ g. rows.with_params (at_place env g r []) p.header.params) e.0
    ∙ ap (λ o. rows.with_params (at_place env (has_result p.header.result) o []) p.header.params) e.1

-- no type that a text names leads into a procedure's own memory
named_stays : (earlier : Earlier) (regions : List Word) (ty : TypeSyntax) (t : ValueType) → type_in earlier regions ty ≡ Some t → escapes t ≡ false
named_stays earlier regions (TruthType s) t h = ap escapes (sym (some_same h))
named_stays earlier regions (IntType s k) t h = ap escapes (sym (some_same h))
named_stays earlier regions (IndexType s n) t h = go (is_length n) h
  where
    go : (b : Bool) → cond b (Some (types.Ix n)) None ≡ Some t → escapes t ≡ false
    go true e = ap escapes (sym (some_same e))
    go false e = let no : ⊥ = cc in absurd no
named_stays earlier regions (BitsType s name) t h = let p = mapped types.Bits _ t h in ap escapes p.is
named_stays earlier regions (RefType s c text area) t h =
    let p = ref_parts c (region_in regions text) (area_in earlier area) t h in
    ap escapes p.is ∙ go text p.region_there
  where
    go : (x : RegionText) → region_in regions x ≡ Some (ref_parts c (region_in regions text) (area_in earlier area) t h).to → escapes (types.Ref c (ref_parts c (region_in regions text) (area_in earlier area) t h).to (ref_parts c (region_in regions text) (area_in earlier area) t h).target) ≡ false
    go region.Global e = ap (λ r. escapes (types.Ref c r (ref_parts c (region_in regions text) (area_in earlier area) t h).target)) (sym (some_same e))
    go (region.Named name) e =
        let q = mapped Param (position_from (λ n. same_word n name) 0 regions) (ref_parts c (region_in regions text) (area_in earlier area) t h).to e in
        ap (λ r. escapes (types.Ref c r (ref_parts c (region_in regions text) (area_in earlier area) t h).target)) q.is

pub results_stay : {env : Env} {text : Option TypeSyntax} {r : Option ValueType} → Results env text r → Stays r
results_stay item.no_result u e = let no : ⊥ = cc in absurd no
results_stay {env = env} (item.a_result {text = text} {t = t} names) u e = ap escapes (sym (some_same e)) ∙ named_stays env.earlier env.regions text t names.exists

ends_well : (gives falls : Bool) → (gives ≡ true → falls ≡ false) → gives && falls ≡ false
ends_well true falls h = h refl
ends_well false falls h = refl

body_clean : (names : List Word) (earlier : Earlier) (p : ProcSyntax) (core : ProcCore) (stands : StandsProc (at_header names earlier p.header) p core) → AllDetermined earlier.callees → FormedProc p
    → first_of (body_row (context_of (behind_header (at_header names earlier p.header) p stands.types core.result)) p) ≡ None
body_clean names earlier p core stands all formed =
    let env = at_header names earlier p.header in
    let behind = behind_header env p stands.types core.result in
    let kept = params_keep (record env { result = core.result }) p.header.params stands.types in
    let fine : Fine (in_body behind) = (subst (λ e. AllDetermined e.callees) (sym kept.earlier) all, subst Stays (sym kept.result) (results_stay stands.header.result_stands)) in
    let ends : is_some behind.result && block_falls p.body ≡ false = ap (λ o. is_some o && block_falls p.body) kept.result ∙ ends_well (is_some core.result) (block_falls p.body) stands.ends in
    quiet_append (contracts_row (context_of behind) p.contracts) (block_row (context_of (in_body behind)) (is_some behind.result) p.body)
    (contracts_clean stands.contracts) (block_clean stands.body fine formed.2 (is_some behind.result) ends)

all_cross : (f : ValueType → Bool) (ts : List ValueType) → ((t : ValueType) → f t ≡ true) → list_all f ts ≡ true
all_cross f [] h = refl
all_cross f (t ∷ ts) h = ap (λ b. b && list_all f ts) (h t) ∙ all_cross f ts h

pub leave_plain : (r : Option ValueType) → none_or_plain r ≡ true → leave Exported r ≡ true
leave_plain None h = refl
leave_plain (Some t) h = h

leave_import : (r : Option ValueType) → none_or_plain r ≡ true → leave Imported r ≡ true
leave_import None h = refl
leave_import (Some t) h = h

leave_inner : (r : Option ValueType) → leave Inner r ≡ true
leave_inner None = refl
leave_inner (Some t) = refl

proc_header_clean : (names : List Word) (earlier : Earlier) (h : HeaderSyntax) (ts : List ValueType) (r : Option ValueType) (exported : Bool) → StandsHeader (at_header names earlier h) h ts r
    → (exported ≡ true → IsTrue (list_all is_plain ts && none_or_plain r)) → FormedHeader h → first_of (header_row (faults.outside names earlier) (boundary_of exported) h) ≡ None
proc_header_clean names earlier h ts r true stands plain formed =
    let parts = and_both (list_all is_plain ts) (none_or_plain r) (plain refl) in
    header_clean names earlier h ts r Exported stands parts.0 (leave_plain r parts.1) formed
proc_header_clean names earlier h ts r false stands plain formed = header_clean names earlier h ts r Inner stands (all_cross (crosses Inner earlier) ts (λ t. refl)) (leave_inner r) formed

pub proc_clean : (names : List Word) (earlier : Earlier) (p : ProcSyntax) (core : ProcCore) → StandsProc (at_header names earlier p.header) p core → AllDetermined earlier.callees → FormedProc p
    → first_of (proc_row (faults.outside names earlier) p) ≡ None
proc_clean names earlier p core stands all formed =
    let behind = rows.with_params (rows.at_header (faults.outside names earlier) p.header) p.header.params in
    quiet_append (header_row (faults.outside names earlier) (boundary_of p.exported) p.header) (body_row behind p)
    (proc_header_clean names earlier p.header stands.types core.result p.exported stands.header stands.plain formed.0)
    (ap (λ x. first_of (body_row x p)) (sym (behind_agrees names earlier p stands.types core.result stands.header)) ∙ body_clean names earlier p core stands all formed)

pub import_clean : (names : List Word) (earlier : Earlier) (h : HeaderSyntax) (core : ImportCore) → StandsImport (at_header names earlier h) h core → FormedHeader h → first_of (header_row (faults.outside names earlier) Imported h) ≡ None
import_clean names earlier h core stands formed = header_clean names earlier h core.params stands.result Imported stands.header stands.params_plain (leave_import stands.result stands.result_plain) formed

-- ---- areas of the module

first_clean : {env : Env} {area : Area} {init : Option InitSyntax} {values : List ℤ} → FirstValues env area init values → first_of (init_rows (context_of env) (Some area) init) ≡ None
first_clean item.zero = refl
first_clean (item.given constants f) = init_clean f true (λ q. constants)

pub global_clean : (names : List Word) (earlier : Earlier) (i : GlobalSyntax) (core : AreaCore) → StandsArea (outside names earlier) i core → FormedArea i.area
    → first_of (area_row earlier i.area ++ init_rows (faults.outside names earlier) (area_in earlier i.area) i.init) ≡ None
global_clean names earlier i core stands formed =
    quiet_append (area_row earlier i.area) (init_rows (faults.outside names earlier) (area_in earlier i.area) i.init) (named_area_clean earlier i.area core.area formed stands.area)
    (ap (λ o. first_of (init_rows (faults.outside names earlier) o i.init)) stands.area.exists ∙ first_clean stands.first)

-- ---- structs

pub fields_clean : {earlier : Earlier} {before : List Word} {fields : List FieldSyntax} {rest : List types.Field} → Fields earlier before fields rest → All FormedField fields → first_of (fields_row earlier before fields) ≡ None
fields_clean item.no_fields formed = refl
fields_clean {earlier = earlier} {before = before} (item.more_fields {f = f} {fields = fields} {area = area} fresh names more) formed =
    let rest = fields_row earlier (before ++ f.name.text ∷ []) fields in
    quiet_cons (AField before f) (area_row earlier f.area ++ rest) (quiet_field before f fresh)
    (quiet_append (area_row earlier f.area) rest (named_area_clean earlier f.area area (All-head FormedField f fields formed) names) (fields_clean more (All-tail FormedField f fields formed)))

abbrev pub field_at : FieldSyntax → Area → types.Field
field_at f a = record { name = f.name.text; area = a }

pub fields_there : {earlier : Earlier} {before : List Word} {fields : List FieldSyntax} {rest : List types.Field} → Fields earlier before fields rest
    → (list_all (λ f. is_some (field_in earlier f)) fields ≡ true) × (filter_map (field_in earlier) fields ≡ rest)
fields_there item.no_fields = (refl, refl)
fields_there {earlier = earlier} (item.more_fields {f = f} {fields = fields} {area = area} fresh names more) =
    let e : field_in earlier f ≡ Some (field_at f area) = ap (option_map (field_at f)) names.exists in
    let ih = fields_there more in
    (ap (λ o. is_some o && list_all (λ g. is_some (field_in earlier g)) fields) e ∙ ih.0, ap (λ o. cons_option o (filter_map (field_in earlier) fields)) e ∙ ap (λ xs. field_at f area ∷ xs) ih.1)

pub struct_small : (earlier : Earlier) (i : StructSyntax) → StandsStruct earlier i → rule_9 (AnItem earlier (syntax.Struct i)) ≡ false
struct_small earlier i stands =
    let p = fields_there stands.stand in
    ap (λ b. where_there (cond b (Some (trees.Struct (length earlier.structs) (fields_of (trees_of earlier.structs) (filter_map (field_in earlier) i.fields)))) None) (λ area. not (is_small (words earlier) area))) p.0
    ∙ ap (λ xs. not (is_small (words earlier) (trees.Struct (length earlier.structs) (fields_of (trees_of earlier.structs) xs)))) p.1
    ∙ ap not stands.small

-- ---- bit data

record Laid (word : IntKind) (wishes : List FieldWish) : Type 0 where
  filled : is_filled word wishes ≡ true
  faultless_fields : first_fault [] wishes ≡ None

laid_well : (word : IntKind) (wishes : List FieldWish) (layout : BitLayout) → laid_out word wishes ≡ Ok layout → Laid word wishes
laid_well word wishes layout h = go (is_filled word wishes) refl (first_fault [] wishes) refl h
  where
    go : (b : Bool) → is_filled word wishes ≡ b → (o : Option LayoutFault) → first_fault [] wishes ≡ o → cond b (faultless o word wishes) (Err WidthSum) ≡ Ok layout → Laid word wishes
    go true e None f g = record { filled = e; faultless_fields = f }
    go true e (Some x) f g = let no : ⊥ = cc in absurd no
    go false e o f g = let no : ⊥ = cc in absurd no

pub same_widths : (fields : List BitField) → bits_of (map wish_of fields) ≡ sum_by (λ (f : BitField). f.width) fields
same_widths fields = go fields 0
  where
    go : (fs : List BitField) (n : ℕ) → fold (λ a (w : FieldWish). a + w.width) n (map wish_of fs) ≡ fold (λ a (f : BitField). a + f.width) n fs
    go [] n = refl
    go (f ∷ fs) n = go fs (n + f.width)

signed_or_short : (signed full : Bool) → not signed && full ≡ true → signed || not full ≡ false
signed_or_short false true h = refl
signed_or_short false false h = let no : ⊥ = cc in absurd no
signed_or_short true full h = let no : ⊥ = cc in absurd no

pub bits_filled : (earlier : Earlier) (i : BitsItem) (layout : BitLayout) → StandsBits earlier i layout → rule_10 (AnItem earlier (syntax.BitsData i)) ≡ false
bits_filled earlier i layout stands =
    let p = laid_well i.word (map wish_of i.fields) _ stands.laid in
    ap (λ n. is_signed i.word || not (nat_eq n (width i.word))) (sym (same_widths i.fields))
    ∙ signed_or_short (is_signed i.word) (nat_eq (bits_of (map wish_of i.fields)) (width i.word)) p.filled

record NoFault (before : List FieldWish) (w : FieldWish) (more : List FieldWish) : Type 0 where
  fresh : is_name_of before w.name ≡ false
  wide : nat_eq w.width 0 ≡ false
  rest : first_fault (before ++ w ∷ []) more ≡ None

no_fault : (before : List FieldWish) (w : FieldWish) (more : List FieldWish) → first_fault before (w ∷ more) ≡ None → NoFault before w more
no_fault before w more h = go (is_name_of before w.name) refl (nat_eq w.width 0) refl h
  where
    go : (a : Bool) → is_name_of before w.name ≡ a → (b : Bool) → nat_eq w.width 0 ≡ b
        → cond a (Some (TwiceNamed (length before))) (cond b (Some (EmptyField (length before))) (first_fault (before ++ w ∷ []) more)) ≡ None → NoFault before w more
    go false e false f g = record { fresh = e; wide = f; rest = g }
    go false e true f g = let no : ⊥ = cc in absurd no
    go true e b f g = let no : ⊥ = cc in absurd no

bit_fields_clean : (fields : List BitField) (names : List Word) (before : List FieldWish) → ((name : Word) → is_name_of before name ≡ has_word names name) → first_fault before (map wish_of fields) ≡ None
    → first_of (bit_fields_row names fields) ≡ None
bit_fields_clean [] names before agrees h = refl
bit_fields_clean (f ∷ fields) names before agrees h =
    let p = no_fault before (wish_of f) (map wish_of fields) h in
    quiet_cons (ABitField names f) (bit_fields_row (names ++ f.name.text ∷ []) fields) (quiet_bit_field names f (sym (agrees f.name.text) ∙ p.fresh, p.wide))
    (bit_fields_clean fields (names ++ f.name.text ∷ []) (before ++ wish_of f ∷ []) next p.rest)
  where
    next : (name : Word) → is_name_of (before ++ wish_of f ∷ []) name ≡ has_word (names ++ f.name.text ∷ []) name
    next name =
        any_last (λ (w : FieldWish). same_word w.name name) before (wish_of f)
        ∙ ap (λ b. b || same_word f.name.text name) (agrees name)
        ∙ sym (any_last (λ n. same_word n name) names f.name.text)

pub bits_clean : (earlier : Earlier) (i : BitsItem) (layout : BitLayout) → StandsBits earlier i layout → first_of (bit_fields_row [] i.fields) ≡ None
bits_clean earlier i layout stands = let p = laid_well i.word (map wish_of i.fields) _ stands.laid in bit_fields_clean i.fields [] [] (λ name. refl) p.faultless_fields
