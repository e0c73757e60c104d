-- A procedure that stands is well typed in the core, after the procedures before it.
use Rattle.std.proofs.Common.{◌≡◌, ◌⊎◌, inl, inr, ℕ, zero, suc, ◌<◌, ◌≤◌, List, [], ◌∷◌, ◌++◌, map, length, take, slice_get, Option, Some, None, is_some, is_none, Bool, true, false, not, if◌then◌else◌, ◌&&◌, ◌||◌, All, Contains, IsTrue, refl, sym, ◌∙◌, ap, subst, arith, length-append, append_assoc, append-nil}
use Rattle.std.specs.List.{list_all}
use Rattle.std.proofs.lemmas.Bool.{cases_lt}
use Rattle.std.proofs.lemmas.List.Elements.{All-cons, All-nil, All-push, All-weaker}
use Rattle.ivory_tree.specs.Syntax.{Word, ParamSyntax, ContractSyntax, ProcSyntax}
use Rattle.ivory_tree.specs.Formed.{FormedProc}
use Rattle.area_types.specs.Syntax as types
use Rattle.area_types.specs.Syntax.{ValueType}
use Rattle.area_types.specs.Tables.{Table}
use Rattle.region_check.specs.Found.{region_count}
use Rattle.core_tree.specs.Syntax.{ContractCore, ProcCore, ModuleCore}
use Rattle.core_tree.specs.Environments as around
use Rattle.core_tree.specs.Environments.{all_locals}
use Rattle.core_tree.specs.Falling.{stmts_fall}
use Rattle.core_tree.specs.Types.{is_type}
use Rattle.core_tree.specs.declared.SiteKind.TheVariants as kind
use Rattle.core_tree.specs.TypedItems.{ParamsTyped, is_local_type, param_types, is_result, is_plain_result, ExportTyped, below, env_of, contract_env, start, ContractTyped, ProcTyped}
use Rattle.source_types.specs.Environments.{Earlier}
use Rattle.source_types.specs.Values.{is_plain}
use Rattle.typing_rules.specs.Environments.{Env, Local, next, with_local}
use Rattle.typing_rules.specs.Items as item
use Rattle.typing_rules.specs.Items.{Params, none_or_plain, with_params, param_cores, behind_header, in_body, at_contract, contract_site, StandsContract, Contracts, StandsProc}
use Rattle.typing_rules.specs.WellTyped.{at_header}
use Rattle.typing_laws.proofs.Lookups.{and_both}
use Rattle.core_validity.proofs.Lists.{get_front, get_next, get_within, Begins}
use Rattle.core_validity.proofs.Types.{Usable, usable_local, type_usable}
use Rattle.core_validity.proofs.Known.{Known}
use Rattle.core_validity.proofs.Named.{NamesAreas, Grows, names_areas}
use Rattle.core_validity.proofs.Headers.{HeaderTyped, header_typed}
use Rattle.core_validity.proofs.Expressions.{Around, under_fine}
use Rattle.core_validity.proofs.Paths.{block_falls_same, block_grows, begins_before}
use Rattle.core_validity.proofs.Statements.{Seen, Here, around_here, block_fine}

-- ---- parameters

-- each local in scope has its type at its number
abbrev ScopeTyped : List ValueType → List Local → Type 0
ScopeTyped locals scope = All (λ (l : Local). slice_get locals l.number ≡ Some l.ty) scope

record ParamsIn (env e : Env) (ts : List ValueType) : Type 0 where
  earlier : e.earlier ≡ env.earlier
  result : e.result ≡ env.result
  in_ensures : e.in_ensures ≡ env.in_ensures
  locals : e.locals ≡ env.locals ++ ts
  scope : ScopeTyped e.locals e.scope

scope_more : (env : Env) (name : Word) (t : ValueType) → ScopeTyped env.locals env.scope → ScopeTyped (env.locals ++ t ∷ []) (with_local env name t).scope
scope_more env name t h =
    let l : Local = record { name = name; number = next env; ty = t } in
    All-push (λ (x : Local). slice_get (env.locals ++ t ∷ []) x.number ≡ Some x.ty) env.scope l
    (All-weaker (λ (x : Local). slice_get env.locals x.number ≡ Some x.ty) (λ (x : Local). slice_get (env.locals ++ t ∷ []) x.number ≡ Some x.ty) (λ x e. get_front env.locals (t ∷ []) x.number x.ty e) env.scope h)
    (get_next env.locals t [])

params_in : (env : Env) (params : List ParamSyntax) (ts : List ValueType) → length params ≡ length ts → ScopeTyped env.locals env.scope → ParamsIn env (with_params env params ts) ts
params_in env [] [] n h = record { earlier = refl; result = refl; in_ensures = refl; locals = sym (append-nil env.locals); scope = h }
params_in env [] (t ∷ ts) n h = let no : ⊥ = omega arith in absurd no
params_in env (p ∷ params) [] n h = let no : ⊥ = omega arith in absurd no
params_in env (p ∷ params) (t ∷ ts) n h =
    let k = params_in (with_local env p.name.text t) params ts (omega (arith, n)) (scope_more env p.name.text t h) in
    record { earlier = k.earlier; result = k.result; in_ensures = k.in_ensures; locals = k.locals ∙ append_assoc env.locals (t ∷ []) ts; scope = k.scope }

pub params_long : {env : Env} {before : List Word} {params : List ParamSyntax} {ts : List ValueType} → Params env before params ts → length params ≡ length ts
params_long item.no_params = refl
params_long (item.more_params taken again named more) = ap suc (params_long more)

pub param_types_are : (params : List ParamSyntax) (ts : List ValueType) → length params ≡ length ts → map (λ x. x.ty) (param_cores params ts) ≡ ts
param_types_are [] [] n = refl
param_types_are [] (t ∷ ts) n = let no : ⊥ = omega arith in absurd no
param_types_are (p ∷ params) [] n = let no : ⊥ = omega arith in absurd no
param_types_are (p ∷ params) (t ∷ ts) n = ap (λ us. t ∷ us) (param_types_are params ts (omega (arith, n)))

params_count : (params : List ParamSyntax) (ts : List ValueType) → length params ≡ length ts → length (param_cores params ts) ≡ length ts
params_count [] [] n = refl
params_count [] (t ∷ ts) n = let no : ⊥ = omega arith in absurd no
params_count (p ∷ params) [] n = let no : ⊥ = omega arith in absurd no
params_count (p ∷ params) (t ∷ ts) n = ap suc (params_count params ts (omega (arith, n)))

below_long : (n : ℕ) → length (below n) ≡ n
below_long zero = refl
below_long (suc n) = ap suc (below_long n)

-- a number is among those below a greater one
below_has : (n k : ℕ) → k < n → Contains (below n) k
below_has zero k h = let no : ⊥ = omega arith in absurd no
below_has (suc n) k h = go (λ less. below_has n k less) (cases_lt k n)
  where
    go : (k < n → Contains (below n) k) → (k < n) ⊎ (n ≤ k) → Contains (below (suc n)) k
    go ih (inl less) = let c = ih less in (suc c.0, omega (arith, c.1), c.2)
    go ih (inr more) = (zero, omega (arith, below_long n), let same : n ≡ k = omega (arith, h, more) in same)

-- ---- a body

-- what its procedure's header brings
record Inside (table : Table) (names : List Word) (earlier : Earlier) (p : ProcSyntax) (core : ProcCore) (ts : List ValueType) : Type 0 where
  types_are : param_types core ≡ ts
  count : length core.params ≡ length ts
  typed : HeaderTyped table ts core.result
  params : ParamsIn (record (at_header names earlier p.header) { result = core.result }) (behind_header (at_header names earlier p.header) p ts core.result) ts

inside : (table : Table) (names : List Word) (earlier : Earlier) (p : ProcSyntax) (core : ProcCore) → Grows table earlier → FormedProc p → (s : StandsProc (at_header names earlier p.header) p core) → Inside table names earlier p core s.types
inside table names earlier p core g f s =
    let long = params_long s.header.params_stand in
    record {
      types_are = ap (map (λ x. x.ty)) s.params ∙ param_types_are p.header.params s.types long;
      count = ap length s.params ∙ params_count p.header.params s.types long;
      typed = header_typed table names earlier p.header s.types core.result g f.0 s.header;
      params = params_in (record (at_header names earlier p.header) { result = core.result }) p.header.params s.types long (All-nil (λ (x : Local). slice_get [] x.number ≡ Some x.ty));
    }

-- at the start of a body
here_start : (m : ModuleCore) (done : List ProcCore) (names : List Word) (earlier : Earlier) (p : ProcSyntax) (core : ProcCore) (ts : List ValueType) → Grows m.structs earlier → Known m done earlier → Inside m.structs names earlier p core ts
    → Here (region_count 0 ts) (in_body (behind_header (at_header names earlier p.header) p ts core.result)) (env_of m done core) (start core)
here_start m done names earlier p core ts g known i =
    let e = behind_header (at_header names earlier p.header) p ts core.result in
    let locals : e.locals ≡ ts = i.params.locals in
    record {
      known = subst (Known m done) (sym i.params.earlier) known;
      named = subst (NamesAreas m.structs) (sym i.params.earlier) (names_areas m.structs earlier g);
      types = subst (All (Usable m.structs (region_count 0 ts))) (sym locals)
          (All-weaker (λ t. IsTrue (is_type m.structs (region_count 0 ts) t)) (Usable m.structs (region_count 0 ts)) (λ t h. type_usable m.structs (region_count 0 ts) t h) ts i.typed.params.types);
      scope = All-weaker (λ (l : Local). slice_get e.locals l.number ≡ Some l.ty) (Seen e.locals (below (length core.params)))
          (λ l h. record { in_scope = below_has (length core.params) l.number (omega (arith, get_within e.locals l.number l.ty h, ap length locals, i.count)); type = h }) e.scope i.params.scope;
      count = omega (arith, ap length locals, i.count);
      allowed = refl;
      result = sym i.params.result;
      result_type = λ t h. i.typed.result t (sym i.params.result ∙ h);
      body = i.params.in_ensures;
    }

-- ---- contracts

contract_around : (n : ℕ) (env : Env) (cenv : around.Env) (at : around.Point) (c : ContractSyntax) (before : Bool) → before ≡ c.before → Here n (in_body env) cenv at → Begins ValueType env.locals cenv.locals → cenv.outcome ≡ None
    → Around n (at_contract env c) (contract_env cenv before) at.scope
contract_around n env cenv at c true e h b o =
    let a = around_here n (in_body env) cenv at h b in
    record { known = a.known; locals = a.locals; outcome = λ t q r. let no : ⊥ = let k = ap not e ∙ q in cc in absurd no }
contract_around n env cenv at c false e h b o =
    let a = around_here n (in_body env) cenv at h b in
    record {
      known = a.known;
      locals = λ name l q. let k = a.locals name l q in record { in_scope = k.in_scope; type = k.type; usable = k.usable };
      outcome = λ t q r. record { is = h.result ∙ r; usable = type_usable cenv.core.structs n t (h.result_type t r) };
    }

contract_typed : (n : ℕ) (env : Env) (cenv : around.Env) (at : around.Point) (c : ContractSyntax) (d : ContractCore) → Here n (in_body env) cenv at → Begins ValueType env.locals cenv.locals → cenv.outcome ≡ None → StandsContract env c d → ContractTyped cenv at.scope d
contract_typed n env cenv at c d h b o s = record {
  cond = under_fine s.cond n (contract_env cenv d.before) at.scope (contract_around n env cenv at c d.before s.before h b o) (truth_usable d.before);
  check_is = s.check.0 ∙ site_is c.before ∙ ap (λ x. if x then kind.Pre else kind.Post) (sym s.before);
}
  where
    truth_usable : (x : Bool) → Usable (contract_env cenv x).core.structs n types.Truth
    truth_usable x = tt

    site_is : (x : Bool) → contract_site x ≡ (if x then kind.Pre else kind.Post)
    site_is true = refl
    site_is false = refl

contracts_typed : {env : Env} {cs : List ContractSyntax} {ds : List ContractCore} → Contracts env cs ds → (n : ℕ) (cenv : around.Env) (at : around.Point) → Here n (in_body env) cenv at → Begins ValueType env.locals cenv.locals → cenv.outcome ≡ None → All (ContractTyped cenv at.scope) ds
contracts_typed item.no_contracts n cenv at h b o = All-nil (ContractTyped cenv at.scope)
contracts_typed {env = env} (item.more_contracts {c = c} {d = d} {cores = ds} s more) n cenv at h b o = All-cons (ContractTyped cenv at.scope) d ds (contract_typed n env cenv at c d h b o s) (contracts_typed more n cenv at h b o)

-- ---- procedures

result_fits : (table : Table) (core : ProcCore) (n : ℕ) (r : Option ValueType) → n ≡ region_count 0 (param_types core) → ((t : ValueType) → r ≡ Some t → IsTrue (is_type table n t)) → IsTrue (is_result table core r)
result_fits table core n None e h = refl
result_fits table core n (Some t) e h = subst (λ k. IsTrue (is_type table k t)) e (h t refl)

plain_types : (ts : List ValueType) → list_all is_plain ts ≡ true → All (λ t. IsTrue (is_plain t)) ts
plain_types [] h = All-nil (λ t. IsTrue (is_plain t))
plain_types (t ∷ ts) h = let p = and_both (is_plain t) (list_all is_plain ts) h in All-cons (λ u. IsTrue (is_plain u)) t ts p.0 (plain_types ts p.1)

plain_result_is : (r : Option ValueType) → none_or_plain r ≡ true → IsTrue (is_plain_result r)
plain_result_is None h = refl
plain_result_is (Some t) h = h

export_typed : (core : ProcCore) (ts : List ValueType) → param_types core ≡ ts → IsTrue (list_all is_plain ts && none_or_plain core.result) → ExportTyped core
export_typed core ts e h =
    let p = and_both (list_all is_plain ts) (none_or_plain core.result) h in
    record { params = subst (All (λ t. IsTrue (is_plain t))) (sym e) (plain_types ts p.0); result = plain_result_is core.result p.1 }

take_front : (xs ys : List ValueType) (n : ℕ) → n ≡ length xs → take n (xs ++ ys) ≡ xs
take_front [] ys zero e = refl
take_front [] ys (suc n) e = let no : ⊥ = omega arith in absurd no
take_front (x ∷ xs) ys zero e = let no : ⊥ = omega arith in absurd no
take_front (x ∷ xs) ys (suc n) e = ap (λ zs. x ∷ zs) (take_front xs ys n (omega (arith, e)))

returns_so : (r : Option ValueType) (falls : Bool) → (is_some r ≡ true → falls ≡ false) → IsTrue (is_none r || not falls)
returns_so None falls h = refl
returns_so (Some t) falls h = ap not (h refl)

pub proc_typed : (m : ModuleCore) (done : List ProcCore) (names : List Word) (earlier : Earlier) (p : ProcSyntax) (core : ProcCore) → Grows m.structs earlier → Known m done earlier → FormedProc p → StandsProc (at_header names earlier p.header) p core → ProcTyped m done core
proc_typed m done names earlier p core g known f s =
    let ts = s.types in
    let n : ℕ = region_count 0 ts in
    let e : Env = in_body (behind_header (at_header names earlier p.header) p ts core.result) in
    let cenv : around.Env = env_of m done core in
    let i = inside m.structs names earlier p core g f s in
    let here = here_start m done names earlier p core ts g known i in
    let grown = block_grows s.body in
    let all : Begins ValueType s.last.locals core.locals = record { rest = []; is = s.locals ∙ sym (append-nil s.last.locals) } in
    let front : Begins ValueType e.locals core.locals = begins_before e.locals s.last.locals core.locals (all_locals core.body) grown all in
    let body = block_fine s.body f.2 n cenv (start core) here all in
    let same_count : n ≡ region_count 0 (param_types core) = ap (region_count 0) (sym i.types_are) in
    let locals : core.locals ≡ ts ++ grown.added = s.locals ∙ grown.is ∙ ap (λ l. l ++ grown.added) i.params.locals in
    record {
      params = subst (ParamsTyped m.structs) (sym i.types_are) i.typed.params;
      result = result_fits m.structs core n core.result same_count i.typed.result;
      exported = λ x. export_typed core ts i.types_are (s.plain (sym s.exported ∙ x));
      params_first = ap (take (length core.params)) locals ∙ take_front ts grown.added (length core.params) i.count ∙ sym i.types_are;
      local_types = subst (λ k. All (λ t. IsTrue (is_local_type m.structs k t)) core.locals) same_count
          (subst (All (λ t. IsTrue (is_local_type m.structs n t))) (sym s.locals)
          (All-weaker (Usable m.structs n) (λ t. IsTrue (is_local_type m.structs n t)) (λ t u. usable_local m.structs n t u) s.last.locals body.types));
      counted = omega (arith, ap length locals, length-append ts grown.added, grown.long, i.count);
      contracts = contracts_typed s.contracts n cenv (start core) here front refl;
      body = body.typed;
      returns = returns_so core.result (stmts_fall core.body) (λ x. block_falls_same s.body ∙ s.ends x);
    }
