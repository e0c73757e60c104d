-- A module stands for the core that is made of its text: its items do up to the numbers of their checks, and the sites give these.
use Rattle.std.proofs.Common.{◌≡◌, ℕ, ℤ, ◌-◌, List, [], ◌∷◌, ◌++◌, map, flat_map, Option, Some, Bool, true, false, refl, sym, ◌∙◌, ap, ap₂, subst, Result, Ok}
use Rattle.iv_words.specs.declared.IntKind.{IntKind}
use Rattle.ivory_tree.specs.Syntax.{Word, ItemSyntax, TypeSyntax, InitSyntax, GlobalSyntax, ParamSyntax, HeaderSyntax, ContractSyntax, ProcSyntax}
use Rattle.ivory_tree.specs.declared.items.BitsItem.{BitsItem}
use Rattle.type_trees.specs.Trees as trees
use Rattle.area_types.specs.Syntax as types
use Rattle.area_types.specs.Syntax.{ValueType, Area}
use Rattle.area_types.specs.Trees.{Written, WrittenRow}
use Rattle.area_types.specs.Tables.{Table, structs_of}
use Rattle.area_types.specs.View.{field_of, struct_of}
use Rattle.area_types.specs.declared.FieldDef.{FieldDef}
use Rattle.area_types.specs.declared.StructDef.{StructDef}
use Rattle.region_check.proofs.Apart.{same_areas}
use Rattle.bit_data.specs.declared.BitLayout.{BitLayout}
use Rattle.bit_data.specs.declared.LayoutFault.{LayoutFault}
use Rattle.core_tree.specs.Syntax as core
use Rattle.core_tree.specs.Syntax.{ExprCore, InitCore, InitsCore, StmtsCore, AreaCore, ImportCore, ParamCore, ContractCore, ProcCore, ModuleCore}
use Rattle.core_tree.specs.Checks.{proc_checks}
use Rattle.core_tree.specs.Sites.{AreSitesOf}
use Rattle.core_tree.specs.declared.Check.{Check}
use Rattle.source_types.specs.Environments.{Earlier, nothing_earlier, words}
use Rattle.source_types.specs.Items.{item_names}
use Rattle.source_types.specs.Written.{callee_in}
use Rattle.typing_rules.specs.Environments.{Env}
use Rattle.typing_rules.specs.Sites.{first_token}
use Rattle.typing_rules.specs.Areas.{written}
use Rattle.typing_rules.specs.Initializers.{constant_of, cell_values, element_values, field_values}
use Rattle.typing_rules.specs.Items as item
use Rattle.typing_rules.specs.Items.{StandsBits, FirstValues, StandsArea, Params, Results, StandsHeader, StandsImport, plain_result, param_cores, behind_header, in_body, at_contract, contract_site, contract_bytes, StandsContract, Contracts, StandsProc}
use Rattle.typing_rules.specs.WellTyped as module_rule
use Rattle.typing_rules.specs.WellTyped.{outside, at_header, StandItems, Stands}
use Rattle.typing_rules.specs.OtherChecks.{expr_by, init_by, inits_by, stmts_by, contract_by, proc_by}
use Rattle.typing_rules.specs.Numbers.{numbered_by}
use Rattle.typing_rules.specs.Tables.{table_of}
use Rattle.typing_rules.specs.ExpressionCores.{type_or}
use Rattle.typing_rules.specs.StatementCores.{area_or}
use Rattle.typing_rules.specs.ItemCores.{layout_or, layout_core, first_core, area_core, param_types, result_core, import_core, contract_core, proc_with, proc_core}
use Rattle.typing_rules.specs.Made.{end_of, layouts_of, areas_of, imports_of, procs_of, numbered}
use Rattle.typing_laws.specs.Laws.{StandingIsMade, OneCore}
use Rattle.typing_laws.proofs.Relabelled.{procs_checks_by, procs_back}
use Rattle.typing_laws.proofs.Ranks.{unnumbered, sites_back}
use Rattle.typing_laws.proofs.Cores.{under_core}
use Rattle.typing_laws.proofs.StatementCores.{init_is, block_is}
use Rattle.typing_laws.proofs.TablesSay.{structs_say}
use Rattle.typing_laws.proofs.CleanItems.{params_keep}
use Rattle.typing_laws.proofs.Callees.{AllDetermined, determined_last, header_determined}

-- ---- tables

fields_same : (xs ys : List FieldDef) → map field_of xs ≡ map field_of ys → xs ≡ ys
fields_same [] [] h = refl
fields_same [] (y ∷ ys) h = let no : ⊥ = cc in absurd no
fields_same (x ∷ xs) [] h = let no : ⊥ = cc in absurd no
fields_same (x ∷ xs) (y ∷ ys) h =
    let first : field_of x ≡ field_of y = cc in
    let rest : map field_of xs ≡ map field_of ys = cc in
    let same : x ≡ y = ap₂ (λ n a. record { name = n; area = a }) (ap (λ (f : types.Field). f.name) first) (same_areas x.area y.area (ap (λ (f : types.Field). f.area) first)) in
    ap₂ (λ z zs. z ∷ zs) same (fields_same xs ys rest)

structs_same : (xs ys : List StructDef) → map struct_of xs ≡ map struct_of ys → xs ≡ ys
structs_same [] [] h = refl
structs_same [] (y ∷ ys) h = let no : ⊥ = cc in absurd no
structs_same (x ∷ xs) [] h = let no : ⊥ = cc in absurd no
structs_same (x ∷ xs) (y ∷ ys) h =
    let first : struct_of x ≡ struct_of y = cc in
    let rest : map struct_of xs ≡ map struct_of ys = cc in
    let same : x ≡ y = ap₂ (λ n fs. record { name = n; fields = fs }) (ap (λ (s : types.StructType). s.name) first) (fields_same x.fields y.fields (ap (λ (s : types.StructType). s.fields) first)) in
    ap₂ (λ z zs. z ∷ zs) same (structs_same xs ys rest)

table_same : (t u : Table) → structs_of t ≡ structs_of u → t.words ≡ u.words → t ≡ u
table_same t u h k = ap₂ (λ (ss : List StructDef) (ws : List IntKind). record { structs = ss; words = ws }) (structs_same t.structs u.structs h) k

-- ---- bit data

laid : (i : BitsItem) (x : BitLayout) (n : List ℕ) {a : Result BitLayout LayoutFault} → a ≡ Ok x → n ≡ i.name.text → record x { name = n } ≡ record (layout_or i.word a) { name = i.name.text }
laid i x n h k = ap₂ (λ (m : List ℕ) (a : Result BitLayout LayoutFault). record (layout_or i.word a) { name = m }) k (sym h)

layout_is : {earlier : Earlier} {i : BitsItem} {b : BitLayout} → StandsBits earlier i b → b ≡ layout_core i
layout_is {i = i} {b = b} h = laid i (record b { name = [] }) b.name h.laid h.name

-- ---- first values

constant_by : (g : Check → Check) (e : ExprCore) → constant_of (expr_by g e) ≡ constant_of e
constant_by g (core.Number l value) = refl
constant_by g (core.Outcome l) = refl
constant_by g (core.Local l number) = refl
constant_by g (core.AreaName l number) = refl
constant_by g (core.Cast l e) = refl
constant_by g (core.ToIndex l e) = refl
constant_by g (core.WrapIndex l e) = refl
constant_by g (core.MakeBits l e) = constant_by g e
constant_by g (core.Raw l e) = refl
constant_by g (core.SetField l e field value) = refl
constant_by g (core.Prefix l op e) = refl
constant_by g (core.Binary l op left right) = refl
constant_by g (core.Field l e field) = refl
constant_by g (core.Element l e index) = refl
constant_by g (core.Cond l test first second) = refl
constant_by g (core.Whole l e) = refl

mutual
  values_by : (g : Check → Check) (a : Written) (c : InitCore) → cell_values a (init_by g c) ≡ cell_values a c
  values_by g (trees.Leaf t) (core.One e) = ap (λ v. v ∷ []) (constant_by g e)
  values_by g (trees.Many n element) (core.One e) = ap (λ v. v ∷ []) (constant_by g e)
  values_by g (trees.Struct k fields) (core.One e) = ap (λ v. v ∷ []) (constant_by g e)
  values_by g (trees.Leaf t) (core.Many cs) = refl
  values_by g (trees.Many n element) (core.Many cs) = element_values_by g n element cs
  values_by g (trees.Struct k fields) (core.Many cs) = field_values_by g fields cs

  element_values_by : (g : Check → Check) (n : ℕ) (a : Written) (cs : InitsCore) → element_values n a (inits_by g cs) ≡ element_values n a cs
  element_values_by g n a core.NoInits = refl
  element_values_by g n a (core.MoreInits c cs) = ap₂ (λ xs ys. xs ++ ys) (values_by g a c) (element_values_by g (n - 1) a cs)

  field_values_by : (g : Check → Check) (fields : WrittenRow) (cs : InitsCore) → field_values fields (inits_by g cs) ≡ field_values fields cs
  field_values_by g trees.End core.NoInits = refl
  field_values_by g (trees.Field i a fields) core.NoInits = refl
  field_values_by g trees.End (core.MoreInits c cs) = refl
  field_values_by g (trees.Field i a fields) (core.MoreInits c cs) = ap₂ (λ xs ys. xs ++ ys) (values_by g a c) (field_values_by g fields cs)

first_is : {env : Env} {area : Area} {init : Option InitSyntax} {xs : List ℤ} → FirstValues env area init xs → xs ≡ first_core env area init
first_is item.zero = refl
first_is {env = env} {area = area} (item.given {c = c} h f) = sym (values_by unnumbered (written env.earlier area) c) ∙ ap (cell_values (written env.earlier area)) (sym (init_is f))

area_is : {env : Env} {i : GlobalSyntax} {a : AreaCore} → StandsArea env i a → a ≡ area_core env i
area_is {env = env} {i = i} {a = a} h =
    ap₂ (λ (n : List ℕ) (c : Bool). record { name = n; constant = c; area = a.area; first = a.first }) h.name h.constant
    ∙ ap (λ (vs : List ℤ). record { name = i.name.text; constant = i.constant; area = a.area; first = vs }) (first_is h.first)
    ∙ ap (λ (o : Option Area). record { name = i.name.text; constant = i.constant; area = area_or o; first = first_core env (area_or o) i.init }) (sym h.area.exists)

-- ---- headers and imports

params_are : {env : Env} {before : List Word} {params : List ParamSyntax} {ts : List ValueType} → Params env before params ts → ts ≡ param_types env params
params_are item.no_params = refl
params_are (item.more_params a b names more) = ap₂ (λ t ts. t ∷ ts) (ap type_or (sym names.exists)) (params_are more)

result_is : {env : Env} {text : Option TypeSyntax} {r : Option ValueType} → Results env text r → r ≡ result_core env text
result_is item.no_result = refl
result_is (item.a_result names) = ap (λ o. Some (type_or o)) (sym names.exists)

import_is : {env : Env} {h : HeaderSyntax} {i : ImportCore} → StandsImport env h i → i ≡ import_core env h
import_is {env = env} {h = header} {i = i} h =
    ap₂ (λ (n : List ℕ) (ps : List ValueType). record { name = n; params = ps; result = i.result }) h.name (params_are h.header.params_stand)
    ∙ ap (λ o. record { name = header.name.text; params = param_types env header.params; result = o }) (h.gives ∙ ap plain_result (result_is h.header.result_stands))

-- ---- procedures

contract_is : {env : Env} {c : ContractSyntax} {d : ContractCore} → StandsContract env c d → contract_core env c ≡ contract_by unnumbered d
contract_is {env = env} {c = c} {d = d} h =
    ap₂ (λ (b : Bool) (e : ExprCore). record { before = b; cond = e; check = record { site = 0; kind = contract_site c.before; span = first_token c.span (contract_bytes c.before) } }) (sym h.before) (under_core h.cond)
    ∙ ap₂ (λ k s. record { before = d.before; cond = expr_by unnumbered d.cond; check = record { site = 0; kind = k; span = s } }) (sym h.check.0) (sym h.check.1)

contracts_are : {env : Env} {cs : List ContractSyntax} {ds : List ContractCore} → Contracts env cs ds → map (contract_core env) cs ≡ map (contract_by unnumbered) ds
contracts_are item.no_contracts = refl
contracts_are (item.more_contracts h more) = ap₂ (λ x xs. x ∷ xs) (contract_is h) (contracts_are more)

abbrev parts : List ℕ → Bool → List ParamCore → Option ValueType → List ContractCore → List ValueType → StmtsCore → ProcCore
parts name exported params result contracts locals body = record { name = name; exported = exported; params = params; result = result; contracts = contracts; locals = locals; body = body }

proc_is : {env : Env} {p : ProcSyntax} {c : ProcCore} (h : StandsProc env p c) → AllDetermined env.earlier.callees → proc_by unnumbered c ≡ proc_with env p h.types c.result
proc_is {env = env} {p = p} {c = c} h d =
    let behind = behind_header env p h.types c.result in
    let kept = params_keep (record env { result = c.result }) p.header.params h.types in
    let body = block_is h.body (subst (λ (e : Earlier). AllDetermined e.callees) (sym kept.earlier) d) in
    ap₂ (λ n x. parts n x c.params c.result (map (contract_by unnumbered) c.contracts) c.locals (stmts_by unnumbered c.body)) h.name h.exported
    ∙ ap₂ (λ ps cs. parts p.header.name.text p.exported ps c.result cs c.locals (stmts_by unnumbered c.body)) h.params (sym (contracts_are h.contracts))
    ∙ ap₂ (parts p.header.name.text p.exported (param_cores p.header.params h.types) c.result (map (contract_core behind) p.contracts)) (h.locals ∙ ap (λ (e : Env). e.locals) body.last) (sym body.core)

proc_made : {env : Env} {p : ProcSyntax} {c : ProcCore} → StandsProc env p c → AllDetermined env.earlier.callees → proc_by unnumbered c ≡ proc_core env p
proc_made {env = env} {p = p} h all = proc_is h all ∙ ap₂ (proc_with env p) (params_are h.header.params_stand) (result_is h.header.result_stands)

-- ---- items

pub record AreMade (names : List Word) (earlier : Earlier) (items : List ItemSyntax) (end : Earlier) (bs : List BitLayout) (areas : List AreaCore) (is : List ImportCore) (ps : List ProcCore) : Type 0 where
  pub ends : end ≡ end_of earlier items
  pub layouts : bs ≡ layouts_of items
  pub globals : areas ≡ areas_of names earlier items
  pub imports : is ≡ imports_of names earlier items
  pub procs : map (proc_by unnumbered) ps ≡ procs_of names earlier items

items_are : {names : List Word} {earlier end : Earlier} {items : List ItemSyntax} {bs : List BitLayout} {areas : List AreaCore} {is : List ImportCore} {ps : List ProcCore} → StandItems names earlier items end bs areas is ps
    → AllDetermined earlier.callees → AreMade names earlier items end bs areas is ps
items_are module_rule.no_items d = record { ends = refl; layouts = refl; globals = refl; imports = refl; procs = refl }
items_are (module_rule.bits h more) d = let p = items_are more d in record { ends = p.ends; layouts = ap₂ (λ x xs. x ∷ xs) (layout_is h) p.layouts; globals = p.globals; imports = p.imports; procs = p.procs }
items_are (module_rule.struct h more) d = let p = items_are more d in record { ends = p.ends; layouts = p.layouts; globals = p.globals; imports = p.imports; procs = p.procs }
items_are (module_rule.area h more) d = let p = items_are more d in record { ends = p.ends; layouts = p.layouts; globals = ap₂ (λ x xs. x ∷ xs) (area_is h) p.globals; imports = p.imports; procs = p.procs }
items_are {names = names} {earlier = earlier} (module_rule.import {h = header} {i = i} h more) d =
    let p = items_are more (determined_last earlier.callees (callee_in earlier true header) d (header_determined names earlier true header i.params h.header.params_stand)) in
    record { ends = p.ends; layouts = p.layouts; globals = p.globals; imports = ap₂ (λ x xs. x ∷ xs) (import_is h) p.imports; procs = p.procs }
items_are {names = names} {earlier = earlier} (module_rule.procedure {p = proc} h more) d =
    let p = items_are more (determined_last earlier.callees (callee_in earlier false proc.header) d (header_determined names earlier false proc.header h.types h.header.params_stand)) in
    record { ends = p.ends; layouts = p.layouts; globals = p.globals; imports = p.imports; procs = ap₂ (λ x xs. x ∷ xs) (proc_made h d) p.procs }

-- ---- the numbers

procs_again : (ps : List ProcCore) (sites : List Check) → AreSitesOf (flat_map proc_checks ps) sites → numbered (map (proc_by unnumbered) ps) ≡ ps
procs_again ps sites h =
    ap (λ us. map (proc_by (numbered_by us)) (map (proc_by unnumbered) ps)) (procs_checks_by unnumbered ps)
    ∙ procs_back (numbered_by (map unnumbered (flat_map proc_checks ps))) unnumbered ps (sites_back (flat_map proc_checks ps) sites h)

pub standing_is_made : StandingIsMade
standing_is_made m c h =
    let p = items_are h.items tt in
    let end = end_of nothing_earlier m.items in
    let table : c.structs ≡ table_of end.structs (words end) =
    table_same c.structs (table_of end.structs (words end)) (h.structs ∙ ap (λ (e : Earlier). e.structs) p.ends ∙ sym (structs_say end.structs)) (h.words ∙ ap words p.ends) in
    let procs : c.procs ≡ numbered (procs_of (item_names m.items) nothing_earlier m.items) = sym (procs_again c.procs h.sites h.numbered) ∙ ap numbered p.procs in
    ap₂ (λ (t : Table) (bs : List BitLayout). record { structs = t; layouts = bs; areas = c.areas; imports = c.imports; procs = c.procs }) table p.layouts
    ∙ ap₂ (λ (xs : List AreaCore) (is : List ImportCore). record { structs = table_of end.structs (words end); layouts = layouts_of m.items; areas = xs; imports = is; procs = c.procs }) p.globals p.imports
    ∙ ap (λ ps. record {
      structs = table_of end.structs (words end);
      layouts = layouts_of m.items;
      areas = areas_of (item_names m.items) nothing_earlier m.items;
      imports = imports_of (item_names m.items) nothing_earlier m.items;
      procs = ps;
    }) procs

pub one_core : OneCore
one_core m c d h k = standing_is_made m c h ∙ sym (standing_is_made m d k)
