-- A statement that breaks no rule stands.
use Rattle.std.proofs.Common.{◌≡◌, ℕ, zero, suc, ◌+◌, ◌≤◌, List, [], ◌∷◌, ◌++◌, length, Option, Some, None, option_map, option_and_then, is_some, IfSome, Bool, true, false, cond, not, ◌&&◌, ◌||◌, refl, sym, ◌∙◌, ap, subst, arith, nat_lt, slice_get}
use Rattle.std.proofs.lemmas.Bool.Decides.{nat_tests}
use Rattle.iv_words.specs.Words.{same_word}
use Rattle.iv_words.specs.declared.Name.{Name}
use Rattle.iv_words.specs.declared.Span.{Span}
use Rattle.ivory_tree.specs.Syntax as syntax
use Rattle.ivory_tree.specs.Syntax.{Word, ExprSyntax, InitSyntax, InitsSyntax, CallSyntax, StmtSyntax, BlockSyntax, StmtsSyntax, AreaSyntax}
use Rattle.ivory_tree.specs.Formed.{FormedExpr, FormedInit, FormedInits, FormedStmt, FormedBlock, FormedStmts}
use Rattle.area_types.specs.Syntax as types
use Rattle.area_types.specs.Syntax.{ValueType, Area, StructType}
use Rattle.area_types.specs.Tables.{is_length}
use Rattle.area_types.specs.declared.region.Region.{Region}
use Rattle.region_check.specs.Calls.{Reference, reference_of, may_stand_for}
use Rattle.region_check.specs.Substitutions.{applied}
use Rattle.alloc_effects.specs.declared.allowed.Narrowing.TheVariants as narrowing
use Rattle.control_effects.specs.Falling.{stmt_falls}
use Rattle.core_tree.specs.Syntax as core
use Rattle.core_tree.specs.Syntax.{ExprCore, InitCore, InitsCore, CallCore, StmtCore, StmtsCore, type_of}
use Rattle.core_tree.specs.declared.SiteKind.TheVariants as site
use Rattle.source_types.specs.Environments.{Callee, callee_named, has_word}
use Rattle.source_types.specs.Parts.{stored_type}
use Rattle.source_types.specs.Settled.{settled}
use Rattle.source_types.specs.Values.{same_area, same_region}
use Rattle.source_types.specs.Written.{index_type, area_in}
use Rattle.rule_faults.specs.Contexts as faults
use Rattle.rule_faults.specs.Contexts.{Context, is_taken}
use Rattle.rule_faults.specs.Types.{own_type}
use Rattle.rule_faults.specs.Wants.{Nothing, Unknown, Wants, wants, of_stored, of_returned}
use Rattle.rule_faults.specs.Nodes.{ABlock, AStatement, AnInit}
use Rattle.rule_faults.specs.Tests.{where_there, where_both}
use Rattle.rule_faults.specs.ItemRules.{inits_count, is_first_value, rule_17}
use Rattle.rule_faults.specs.ExpressionRules.{stores, fits}
use Rattle.rule_faults.specs.StatementRules.{only_reads, alike}
use Rattle.rule_faults.specs.ExpressionRows.{expr_row, call_row, area_row, init_row, inits_row, place_in}
use Rattle.rule_faults.specs.StatementRows as rows
use Rattle.rule_faults.specs.StatementRows.{after_stmt, stmt_row, block_row, stmts_row, alloc_row, value_row, of_value}
use Rattle.rule_faults.specs.FirstFault.{first_of}
use Rattle.typing_rules.specs.Environments.{Env, Local, with_local, is_free, next, after_block}
use Rattle.typing_rules.specs.Contexts.{local_of, context_of}
use Rattle.typing_rules.specs.Sites.{first_token}
use Rattle.typing_rules.specs.Calls.{Calls}
use Rattle.typing_rules.specs.Initializers.{Fills, FillElements, FillFields, stored, array, struct, no_elements, more_elements, no_fields, more_fields, has_constants, have_constants}
use Rattle.typing_rules.specs.Statements as stands
use Rattle.typing_rules.specs.Statements.{StandsStmt, StandsBlock, StandAll, MayFill, Returns, Copies, own, in_loop, in_counted, without}
use Rattle.typing_laws.proofs.Lookups.{any_map, and_both}
use Rattle.typing_laws.proofs.TypesAgree.{typed}
use Rattle.typing_laws.proofs.CleanInits.{From, from_next, field_place, same_constant}
use Rattle.typing_laws.proofs.CleanStatements.{after_agrees, counted_same}
use Rattle.typing_laws.proofs.StatementCores.{callees_after}
use Rattle.typing_laws.proofs.Callees.{AllDetermined}
use Rattle.typing_laws.proofs.Judged.{Judged, cons_parts, row_parts, sure, no_test}
use Rattle.typing_laws.proofs.Equal.{region_equal, area_equal}
use Rattle.typing_laws.proofs.Made.{MadeType, MadeArea, EachField, EachLocal, MadeMaybe, Ready, has_made, struct_there, callee_there, below_there}
use Rattle.typing_laws.proofs.Typed.{there, TypedUnder, Can, can, at_head, alone_typed, wanted_typed}
use Rattle.typing_laws.proofs.TypedCalls.{call_typed, no_reference}
use Rattle.typing_laws.proofs.TypedAreas.{area_typed}

-- ---- initializers

pub record Filled (env : Env) (global : Bool) (a : Area) (i : InitSyntax) : Type 0 where
  pub core : InitCore
  pub fills : Fills env a i core
  pub constants : global ≡ true → has_constants i ≡ true

record ElementsFilled (env : Env) (global : Bool) (n : ℕ) (element : Area) (is : InitsSyntax) : Type 0 where
  core : InitsCore
  fills : FillElements env n element is core
  constants : global ≡ true → have_constants is ≡ true

record FieldsFilled (env : Env) (global : Bool) (fields : List types.Field) (is : InitsSyntax) : Type 0 where
  core : InitsCore
  fills : FillFields env fields is core
  constants : global ≡ true → have_constants is ≡ true

at_most : (m n : ℕ) → nat_lt m n ≡ false → n ≤ m
at_most m n h = grind (arith, nat_tests)

less_one : (n c : ℕ) → 1 + c ≤ suc n → c ≤ n
less_one n c h = omega arith

none_left : (c : ℕ) → 1 + c ≤ 0 → ⊥
none_left c h = omega arith

constant_one : (env : Env) (global : Bool) (t : ValueType) (e : ExprSyntax) → rule_17 (AnInit env.earlier global (Some (types.Stored t)) (syntax.One e)) ≡ false → global ≡ true → has_constants (syntax.One e) ≡ true
constant_one env true t e r q = same_constant e ∙ sure (is_first_value e) r
constant_one env false t e r q = let no : ⊥ = cc in absurd no

also_constants : (a b : Bool) → a ≡ true → b ≡ true → a && b ≡ true
also_constants true b h k = k
also_constants false b h k = let no : ⊥ = cc in absurd no

abbrev MadeIn : Env → Area → Type 0
MadeIn env a = MadeArea (length env.earlier.bits) (length env.earlier.structs) a

mutual
  pub init_typed : (env : Env) → Ready env → (i : InitSyntax) → FormedInit i → (global : Bool) (a : Area) → MadeIn env a → first_of (init_row (context_of env) global (Some a) i) ≡ None → Filled env global a i
  init_typed env m (syntax.One e) f global (types.Stored t) made h =
      let p = cons_parts (AnInit env.earlier global (Some (types.Stored t)) (syntax.One e)) (expr_row (context_of env) (Wants t) e) h in
      let u = wanted_typed (can env m e f) t made.0 p.rest in
      record { core = core.One u.core; fills = stored u.under; constants = λ q. constant_one env global t e p.first.r17 q }
  init_typed env m (syntax.One e) f global (types.Array n element) made h =
      let p = cons_parts (AnInit env.earlier global (Some (types.Array n element)) (syntax.One e)) (expr_row (context_of env) Unknown e) h in let r = p.first.r15 in let no : ⊥ = cc in absurd no
  init_typed env m (syntax.One e) f global (types.Struct k) made h =
      let p = cons_parts (AnInit env.earlier global (Some (types.Struct k)) (syntax.One e)) (expr_row (context_of env) Unknown e) h in let r = p.first.r15 in let no : ⊥ = cc in absurd no
  init_typed env m (syntax.Many s is) f global (types.Stored t) made h =
      let p = cons_parts (AnInit env.earlier global (Some (types.Stored t)) (syntax.Many s is)) (inits_row (context_of env) global (Some (types.Stored t)) 0 is) h in let r = p.first.r15 in let no : ⊥ = cc in absurd no
  init_typed env m (syntax.Many s is) f global (types.Array n element) made h =
      let p = cons_parts (AnInit env.earlier global (Some (types.Array n element)) (syntax.Many s is)) (inits_row (context_of env) global (Some (types.Array n element)) 0 is) h in
      let r = elements_typed env m is f global element made n (at_most n (inits_count is) p.first.r16) n 0 p.rest in
      record { core = core.Many r.core; fills = array r.fills; constants = r.constants }
  init_typed env m (syntax.Many s is) f global (types.Struct k) made h =
      let p = cons_parts (AnInit env.earlier global (Some (types.Struct k)) (syntax.Many s is)) (inits_row (context_of env) global (Some (types.Struct k)) 0 is) h in
      let st = below_there env.earlier.structs k made in
      let count = sym (ap (λ o. where_there (option_map (λ (x : StructType). length x.fields) o) (λ n. nat_lt n (inits_count is))) st.there) ∙ p.first.r16 in
      let each = struct_there (λ (x : types.Field). MadeIn env x.area) env.earlier.structs k st.value m.0.structs st.there in
      let r = fields_typed env m is f global k st.value st.there 0 st.value.fields (λ j. let e : 0 + j ≡ j = omega arith in ap (slice_get st.value.fields) e) each (at_most (length st.value.fields) (inits_count is) count) p.rest in
      record { core = core.Many r.core; fills = struct st.there r.fills; constants = r.constants }

  elements_typed : (env : Env) → Ready env → (is : InitsSyntax) → FormedInits is → (global : Bool) (element : Area) → MadeIn env element → (n : ℕ) → inits_count is ≤ n → (all i : ℕ)
      → first_of (inits_row (context_of env) global (Some (types.Array all element)) i is) ≡ None → ElementsFilled env global n element is
  elements_typed env m syntax.NoInits f global element made n c all i h = record { core = core.NoInits; fills = no_elements; constants = λ q. refl }
  elements_typed env m (syntax.MoreInits x is) f global element made zero c all i h = absurd (none_left (inits_count is) c)
  elements_typed env m (syntax.MoreInits x is) f global element made (suc n) c all i h =
      let parts = row_parts (init_row (context_of env) global (Some element) x) (inits_row (context_of env) global (Some (types.Array all element)) (i + 1) is) h in
      let a = init_typed env m x f.0 global element made parts.0 in
      let r = elements_typed env m is f.1 global element made n (less_one n (inits_count is) c) all (i + 1) parts.1 in
      record { core = core.MoreInits a.core r.core; fills = more_elements a.fills r.fills; constants = λ q. also_constants (has_constants x) (have_constants is) (a.constants q) (r.constants q) }

  fields_typed : (env : Env) → Ready env → (is : InitsSyntax) → FormedInits is → (global : Bool) (k : ℕ) (st : StructType) → slice_get env.earlier.structs k ≡ Some st → (i : ℕ) (fields : List types.Field) → From st.fields i fields
      → EachField (λ (x : types.Field). MadeIn env x.area) fields → inits_count is ≤ length fields → first_of (inits_row (context_of env) global (Some (types.Struct k)) i is) ≡ None → FieldsFilled env global fields is
  fields_typed env m syntax.NoInits f global k st there i fields at each c h = record { core = core.NoInits; fills = no_fields; constants = λ q. refl }
  fields_typed env m (syntax.MoreInits x is) f global k st there i [] at each c h = absurd (none_left (inits_count is) c)
  fields_typed env m (syntax.MoreInits x is) f global k st there i (y ∷ fields) at each c h =
      let parts = row_parts (init_row (context_of env) global (place_in env.earlier (Some (types.Struct k)) i) x) (inits_row (context_of env) global (Some (types.Struct k)) (i + 1) is) h in
      let a = init_typed env m x f.0 global y.area each.0 (ap (λ o. first_of (init_row (context_of env) global o x)) (sym (field_place env k st i y fields there at)) ∙ parts.0) in
      let r = fields_typed env m is f.1 global k st there (i + 1) fields (from_next st.fields i y fields at) each.1 (less_one (length fields) (inits_count is) c) parts.1 in
      record { core = core.MoreInits a.core r.core; fills = more_fields a.fills r.fills; constants = λ q. also_constants (has_constants x) (have_constants is) (a.constants q) (r.constants q) }

record MaybeFilled (env : Env) (a : Area) (i : Option InitSyntax) : Type 0 where
  core : Option InitCore
  may_fill : MayFill env a i core

maybe_filled : (env : Env) → Ready env → (i : Option InitSyntax) → IfSome i FormedInit → (a : Area) → MadeIn env a → first_of (alloc_row (context_of env) (Some a) i) ≡ None → MaybeFilled env a i
maybe_filled env m None f a made h = record { core = None; may_fill = stands.zero }
maybe_filled env m (Some i) f a made h = let r = init_typed env m i f false a made h in record { core = Some r.core; may_fill = stands.filled r.fills }

-- ---- scope

free_name : (env : Env) (name : Word) → is_taken (context_of env) name ≡ false → is_free env name ≡ true
free_name env name h = ap not (ap (λ b. has_word env.names name || b) (sym (any_map (λ (l : faults.Local). same_word l.name name) local_of env.scope)) ∙ h)

each_last : (b s : ℕ) (ls : List Local) (l : Local) → EachLocal b s ls → MadeType b s l.ty → EachLocal b s (ls ++ l ∷ [])
each_last b s [] l h k = (k, tt)
each_last b s (x ∷ ls) l h k = (h.0, each_last b s ls l h.1 k)

pub with_local_ready : (env : Env) (name : Word) (t : ValueType) → Ready env → MadeType (length env.earlier.bits) (length env.earlier.structs) t → Ready (with_local env name t)
with_local_ready env name t m k = (m.0, each_last (length env.earlier.bits) (length env.earlier.structs) env.scope (record { name = name; number = length env.locals; ty = t }) m.1 k, m.2)

-- ---- what is to be shown

pub record StmtTyped (env : Env) (s : StmtSyntax) : Type 0 where
  pub after : Env
  pub core : StmtCore
  pub stands : StandsStmt env s after core
  pub ready : Ready after

pub record BlockTyped (env : Env) (b : BlockSyntax) : Type 0 where
  pub last : Env
  pub core : StmtsCore
  pub stands : StandsBlock env b last core

pub record AllTyped (env : Env) (ss : StmtsSyntax) : Type 0 where
  pub last : Env
  pub core : StmtsCore
  pub stands : StandAll env ss last core

-- ---- parts of statements

index_there : (n : ℕ) → is_length n ≡ true → index_type n ≡ Some (types.Ix n)
index_there n h = ap (λ b. cond b (Some (types.Ix n)) None) h

index_wanted : (env : Env) (n : ℕ) (e : ExprSyntax) → Can env e → is_length n ≡ true → first_of (expr_row (context_of env) (wants (index_type n)) e) ≡ None → TypedUnder env (types.Ix n) e
index_wanted env n e c l h = wanted_typed c (types.Ix n) refl (ap (λ o. first_of (expr_row (context_of env) (wants o) e)) (sym (index_there n l)) ∙ h)

record CellOf (t : ValueType) : Type 0 where
  region : Region
  held : ValueType
  constant : Bool
  is : t ≡ types.Ref constant region (types.Stored held)

cell_of : (t : ValueType) → stores t ≡ true → CellOf t
cell_of (types.Ref c r (types.Stored t)) h = record { region = r; held = t; constant = c; is = refl }
cell_of (types.Ref c r (types.Array n a)) h = let no : ⊥ = cc in absurd no
cell_of (types.Ref c r (types.Struct k)) h = let no : ⊥ = cc in absurd no
cell_of types.Truth h = let no : ⊥ = cc in absurd no
cell_of (types.Int k) h = let no : ⊥ = cc in absurd no
cell_of (types.Ix n) h = let no : ⊥ = cc in absurd no
cell_of (types.Bits k) h = let no : ⊥ = cc in absurd no

store_typed : (env : Env) → Ready env → (s : Span) (target value : ExprSyntax) → FormedExpr target → FormedExpr value → first_of (stmt_row (context_of env) true (syntax.Store s target value)) ≡ None → StmtTyped env (syntax.Store s target value)
store_typed env m s target value f g h =
    let tr = expr_row (context_of env) Nothing target in
    let vr = expr_row (context_of env) (of_stored (context_of env) target) value in
    let p = cons_parts (AStatement (context_of env) true (syntax.Store s target value)) (tr ++ vr) h in
    let r = row_parts tr vr p.rest in
    let c = alone_typed (can env m target f) r.0 in
    let cell = cell_of (type_of c.core) (sure (stores (type_of c.core)) (no_test (own_type (context_of env) target) (type_of c.core) (λ t. not (stores t)) (typed c.has None) p.first.r23)) in
    let own_is : own_type (context_of env) target ≡ Some (types.Ref cell.constant cell.region (types.Stored cell.held)) = typed c.has None ∙ ap Some cell.is in
    let mutable : cell.constant ≡ false = no_test (own_type (context_of env) target) (types.Ref cell.constant cell.region (types.Stored cell.held)) (λ t. only_reads (reference_of t)) own_is p.first.r31 in
    let made : MadeArea (length env.earlier.bits) (length env.earlier.structs) (types.Stored cell.held) = subst (MadeType (length env.earlier.bits) (length env.earlier.structs)) cell.is (has_made c.has m) in
    let v = wanted_typed (can env m value g) cell.held made.0 (ap (λ o. first_of (expr_row (context_of env) (wants (option_and_then stored_type o)) value)) (sym own_is) ∙ r.1) in
    record { after = env; core = core.Store c.core v.core; stands = stands.store_stands c.has (cell.is ∙ ap (λ b. types.Ref b cell.region (types.Stored cell.held)) mutable) v.under; ready = m }

record AlikeOnes (p q : Option Reference) : Type 0 where
  one : Reference
  other : Reference
  one_there : p ≡ Some one
  other_there : q ≡ Some other
  equal : one.area ≡ other.area

alike_ones : (p q : Option Reference) → alike p q ≡ true → AlikeOnes p q
alike_ones (Some p) (Some q) h = record { one = p; other = q; one_there = refl; other_there = refl; equal = area_equal p.area q.area h }
alike_ones (Some p) None h = let no : ⊥ = cc in absurd no
alike_ones None (Some q) h = let no : ⊥ = cc in absurd no
alike_ones None None h = let no : ⊥ = cc in absurd no

both_there : (o p : Option ValueType) (t u : ValueType) → o ≡ Some t → p ≡ Some u → where_both o p (λ x y. not (alike (reference_of x) (reference_of y))) ≡ not (alike (reference_of t) (reference_of u))
both_there o p t u h k = rw (h, k) refl

copy_typed : (env : Env) → Ready env → (s : Span) (target source : ExprSyntax) → FormedExpr target → FormedExpr source → first_of (stmt_row (context_of env) true (syntax.Copy s target source)) ≡ None → StmtTyped env (syntax.Copy s target source)
copy_typed env m s target source f g h =
    let tr = expr_row (context_of env) Nothing target in
    let sr = expr_row (context_of env) Nothing source in
    let p = cons_parts (AStatement (context_of env) true (syntax.Copy s target source)) (tr ++ sr) h in
    let r = row_parts tr sr p.rest in
    let c = alone_typed (can env m target f) r.0 in
    let d = alone_typed (can env m source g) r.1 in
    let t = type_of c.core in
    let u = type_of d.core in
    let test : not (alike (reference_of t) (reference_of u)) ≡ false = sym (both_there (own_type (context_of env) target) (own_type (context_of env) source) t u (typed c.has None) (typed d.has None)) ∙ p.first.r32 in
    let a = alike_ones (reference_of t) (reference_of u) (sure (alike (reference_of t) (reference_of u)) test) in
    let mutable : a.one.constant ≡ false = ap only_reads (sym a.one_there) ∙ no_test (own_type (context_of env) target) t (λ x. only_reads (reference_of x)) (typed c.has None) p.first.r31 in
    record {
      after = env;
      core = core.Copy c.core d.core;
      stands = stands.copy_stands c.has d.has (record { to = a.one; from = a.other; to_reference = a.one_there; from_reference = a.other_there; mutable = mutable; equal = a.equal });
      ready = m;
    }

-- the call of a `let` has a result
applied_made : (b s : ℕ) (regions : ℕ → Region) (t : ValueType) → MadeType b s t → MadeType b s (applied regions t)
applied_made b s regions types.Truth m = tt
applied_made b s regions (types.Int k) m = tt
applied_made b s regions (types.Ix n) m = tt
applied_made b s regions (types.Bits k) m = m
applied_made b s regions (types.Ref c r a) m = m

some_result : (c : Callee) (b s : ℕ) → (c.gives ≡ true → c.result ≡ None → ⊥) → MadeMaybe b s c.result → c.gives ≡ true → (t : ValueType) × ((c.result ≡ Some t) × MadeType b s t)
some_result c b s f m g = go c.result refl m
  where
    go : (o : Option ValueType) → c.result ≡ o → MadeMaybe b s o → (t : ValueType) × ((c.result ≡ Some t) × MadeType b s t)
    go None e k = absurd (f g e)
    go (Some t) e k = (t, (e, k))

let_call_typed : (env : Env) → Ready env → (s : Span) (name : Name) (call : CallSyntax) → FormedStmt (syntax.LetCall s name call) → first_of (stmt_row (context_of env) true (syntax.LetCall s name call)) ≡ None
    → StmtTyped env (syntax.LetCall s name call)
let_call_typed env m s name call f h =
    let p = cons_parts (AStatement (context_of env) true (syntax.LetCall s name call)) (call_row (context_of env) call) h in
    let k = call_typed env m call f p.rest in
    let test = λ (c : Callee). same_word c.name call.name.text in
    let known_callee = callee_there (length env.earlier.bits) (length env.earlier.structs) test env.earlier.callees k.calls.callee m.0.callees k.calls.earlier in
    let gives = sure k.calls.callee.gives (no_test (callee_named env.earlier call.name.text) k.calls.callee (λ c. not c.gives) k.calls.earlier p.first.r33) in
    let r = some_result k.calls.callee (length env.earlier.bits) (length env.earlier.structs) known_callee.gives known_callee.result gives in
    let t = applied k.calls.regions r.0 in
    let result_is : k.result ≡ Some t = k.calls.gives ∙ ap (option_map (applied k.calls.regions)) r.1.0 in
    let calls : Calls env call k.core (Some t) = subst (Calls env call k.core) result_is k.calls in
    record {
      after = with_local env name.text t;
      core = core.LetCall (next env) k.core;
      stands = stands.let_call_stands (free_name env name.text p.first.r1) calls;
      ready = with_local_ready env name.text t m (applied_made (length env.earlier.bits) (length env.earlier.structs) k.calls.regions r.0 r.1.1);
    }

-- ---- returns

record FitsSo (wanted : Reference) (o : Option Reference) : Type 0 where
  given : Reference
  there : o ≡ Some given
  fit : stands.Fits wanted given

fits_found : (wanted : Reference) (o : Option Reference) → fits wanted o ≡ true → FitsSo wanted o
fits_found wanted None h = let no : ⊥ = cc in absurd no
fits_found wanted (Some r) h =
    let p = and_both (same_region r.region wanted.region && same_area r.area wanted.area) (may_stand_for r.constant wanted.constant) h in
    let q = and_both (same_region r.region wanted.region) (same_area r.area wanted.area) p.0 in
    record { given = r; there = refl; fit = record { region = region_equal r.region wanted.region q.0; area = area_equal r.area wanted.area q.1; access = p.1 } }

record ReturnTyped (env : Env) (o : Option ValueType) (value : Option ExprSyntax) : Type 0 where
  core : Option ExprCore
  returns : Returns env o value core

test_39 : (context : Context) (e : ExprSyntax) (wanted : Reference) (t : ValueType) → settled e ≡ true → own_type context e ≡ Some t → settled e && where_there (own_type context e) (λ u. not (fits wanted (reference_of u))) ≡ not (fits wanted (reference_of t))
test_39 context e wanted t s h = rw (s, h) refl

return_reference : (env : Env) → Ready env → (constant : Bool) (r : Region) (a : Area) (e : ExprSyntax) → FormedExpr e → first_of (expr_row (context_of env) (of_returned (Some (types.Ref constant r a))) e) ≡ None
    → ReturnTyped env (Some (types.Ref constant r a)) (Some e)
return_reference env m constant r a e f h = go (settled e) refl
  where
    go : (b : Bool) → settled e ≡ b → ReturnTyped env (Some (types.Ref constant r a)) (Some e)
    go false n = absurd (no_reference env e f n (of_returned (Some (types.Ref constant r a))) constant r a refl h)
    go true s =
        let wanted : Reference = record { constant = constant; region = r; area = a } in
        let c = (can env m e f).settled_so s (of_returned (Some (types.Ref constant r a))) h in
        let j = at_head (context_of env) (of_returned (Some (types.Ref constant r a))) e h in
        let p = fits_found wanted (reference_of (type_of c.core)) (sure (fits wanted (reference_of (type_of c.core))) (sym (test_39 (context_of env) e wanted (type_of c.core) s (typed c.has None)) ∙ j.r39)) in
        record { core = Some c.core; returns = stands.reference refl c.has p.there p.fit }

return_value : (env : Env) → Ready env → (t : ValueType) (e : ExprSyntax) → FormedExpr e → first_of (expr_row (context_of env) (of_returned (Some t)) e) ≡ None → ReturnTyped env (Some t) (Some e)
return_value env m types.Truth e f h = let u = wanted_typed (can env m e f) types.Truth refl h in record { core = Some u.core; returns = stands.value refl u.under }
return_value env m (types.Int k) e f h = let u = wanted_typed (can env m e f) (types.Int k) refl h in record { core = Some u.core; returns = stands.value refl u.under }
return_value env m (types.Ix n) e f h = let u = wanted_typed (can env m e f) (types.Ix n) refl h in record { core = Some u.core; returns = stands.value refl u.under }
return_value env m (types.Bits k) e f h = let u = wanted_typed (can env m e f) (types.Bits k) refl h in record { core = Some u.core; returns = stands.value refl u.under }
return_value env m (types.Ref c r a) e f h = return_reference env m c r a e f h

return_typed : (env : Env) → Ready env → (s : Span) (value : Option ExprSyntax) → IfSome value FormedExpr → Judged (AStatement (context_of env) true (syntax.Return s value)) → first_of (value_row (context_of env) value) ≡ None
    → (o : Option ValueType) → env.result ≡ o → ReturnTyped env o value
return_typed env m s None f j h None e = record { core = None; returns = stands.nothing }
return_typed env m s None f j h (Some t) e = let no : true ≡ false = ap is_some (sym e) ∙ j.r40 in let absurdity : ⊥ = cc in absurd absurdity
return_typed env m s (Some x) f j h None e = let no : true ≡ false = ap (λ o. not (is_some o)) (sym e) ∙ j.r40 in let absurdity : ⊥ = cc in absurd absurdity
return_typed env m s (Some x) f j h (Some t) e = return_value env m t x f (ap (λ o. first_of (expr_row (context_of env) (cond (is_some o) (of_returned o) Nothing) x)) (sym e) ∙ h)

-- ---- statements

head_reached : (context : Context) (reached : Bool) (s : StmtSyntax) → first_of (stmt_row context reached s) ≡ None → reached ≡ true
head_reached context reached (syntax.Let s name e) h = sure reached (cons_parts (AStatement context reached (syntax.Let s name e)) (expr_row context Nothing e) h).first.r44
head_reached context reached (syntax.LetCall s name call) h = sure reached (cons_parts (AStatement context reached (syntax.LetCall s name call)) (call_row context call) h).first.r44
head_reached context reached (syntax.Alloc s name text init) h = sure reached (cons_parts (AStatement context reached (syntax.Alloc s name text init)) (area_row context.earlier text ++ alloc_row context (area_in context.earlier text) init) h).first.r44
head_reached context reached (syntax.Store s target value) h = sure reached (cons_parts (AStatement context reached (syntax.Store s target value)) (expr_row context Nothing target ++ expr_row context (of_stored context target) value) h).first.r44
head_reached context reached (syntax.Copy s target source) h = sure reached (cons_parts (AStatement context reached (syntax.Copy s target source)) (expr_row context Nothing target ++ expr_row context Nothing source) h).first.r44
head_reached context reached (syntax.Call s call) h = sure reached (cons_parts (AStatement context reached (syntax.Call s call)) (call_row context call) h).first.r44
head_reached context reached (syntax.If s test first) h = sure reached (cons_parts (AStatement context reached (syntax.If s test first)) (expr_row context (Wants types.Truth) test ++ block_row context false first) h).first.r44
head_reached context reached (syntax.IfElse s test first second) h = sure reached (cons_parts (AStatement context reached (syntax.IfElse s test first second)) (expr_row context (Wants types.Truth) test ++ (block_row context false first ++ block_row context false second)) h).first.r44
head_reached context reached (syntax.Map s name n body) h = sure reached (cons_parts (AStatement context reached (syntax.Map s name n body)) (block_row (rows.in_counted context name n) false body) h).first.r44
head_reached context reached (syntax.Upto s name n bound body) h = sure reached (cons_parts (AStatement context reached (syntax.Upto s name n bound body)) (expr_row context (wants (index_type n)) bound ++ block_row (rows.in_counted context name n) false body) h).first.r44
head_reached context reached (syntax.Downto s name n bound body) h = sure reached (cons_parts (AStatement context reached (syntax.Downto s name n bound body)) (expr_row context (wants (index_type n)) bound ++ block_row (rows.in_counted context name n) false body) h).first.r44
head_reached context reached (syntax.Forever s body) h = sure reached (cons_parts (AStatement context reached (syntax.Forever s body)) (block_row (rows.in_loop context) false body) h).first.r44
head_reached context reached (syntax.Break s) h = sure reached (cons_parts (AStatement context reached (syntax.Break s)) [] h).first.r44
head_reached context reached (syntax.Return s value) h = sure reached (cons_parts (AStatement context reached (syntax.Return s value)) (value_row context value) h).first.r44
head_reached context reached (syntax.Assert s e) h = sure reached (cons_parts (AStatement context reached (syntax.Assert s e)) (expr_row context (Wants types.Truth) e) h).first.r44
head_reached context reached (syntax.NoAlloc s body) h = sure reached (cons_parts (AStatement context reached (syntax.NoAlloc s body)) (block_row (rows.without context narrowing.NoAlloc) false body) h).first.r44
head_reached context reached (syntax.NoBreak s body) h = sure reached (cons_parts (AStatement context reached (syntax.NoBreak s body)) (block_row (rows.without context narrowing.NoBreak) false body) h).first.r44
head_reached context reached (syntax.NoReturn s body) h = sure reached (cons_parts (AStatement context reached (syntax.NoReturn s body)) (block_row (rows.without context narrowing.NoReturn) false body) h).first.r44

counted_row : (env : Env) (name : Name) (n : ℕ) (body : BlockSyntax) → is_length n ≡ true → first_of (block_row (rows.in_counted (context_of env) name n) false body) ≡ None → first_of (block_row (context_of (in_counted env name n)) false body) ≡ None
counted_row env name n body l h = ap (λ x. first_of (block_row x false body)) (counted_same env name n l) ∙ h

in_counted_ready : (env : Env) (name : Name) (n : ℕ) → Ready env → Ready (in_counted env name n)
in_counted_ready env name n m = with_local_ready (in_loop env) name.text (types.Ix n) m tt

mutual
  pub stmt_typed : (s : StmtSyntax) (env : Env) → Ready env → AllDetermined env.earlier.callees → FormedStmt s → first_of (stmt_row (context_of env) true s) ≡ None → StmtTyped env s
  stmt_typed (syntax.Let s name e) env m d f h =
      let p = cons_parts (AStatement (context_of env) true (syntax.Let s name e)) (expr_row (context_of env) Nothing e) h in
      let c = alone_typed (can env m e f) p.rest in
      record { after = with_local env name.text (type_of c.core); core = core.Let (next env) c.core; stands = stands.let_stands (free_name env name.text p.first.r1) c.has; ready = with_local_ready env name.text (type_of c.core) m (has_made c.has m) }
  stmt_typed (syntax.LetCall s name call) env m d f h = let_call_typed env m s name call f h
  stmt_typed (syntax.Alloc s name text init) env m d f h =
      let ar = area_row env.earlier text in
      let ir = alloc_row (context_of env) (area_in env.earlier text) init in
      let p = cons_parts (AStatement (context_of env) true (syntax.Alloc s name text init)) (ar ++ ir) h in
      let r = row_parts ar ir p.rest in
      let a = area_typed env.earlier text f.0 r.0 in
      let i = maybe_filled env m init f.1 a.area a.is_made (ap (λ o. first_of (alloc_row (context_of env) o init)) (sym a.names.exists) ∙ r.1) in
      record {
        after = with_local env name.text (own a.area);
        core = core.Alloc (next env) a.area i.core;
        stands = stands.alloc_stands (sure env.allowed.may_alloc p.first.r43) (free_name env name.text p.first.r1) a.names i.may_fill;
        ready = with_local_ready env name.text (own a.area) m a.is_made;
      }
  stmt_typed (syntax.Store s target value) env m d f h = store_typed env m s target value f.0 f.1 h
  stmt_typed (syntax.Copy s target source) env m d f h = copy_typed env m s target source f.0 f.1 h
  stmt_typed (syntax.Call s call) env m d f h =
      let p = cons_parts (AStatement (context_of env) true (syntax.Call s call)) (call_row (context_of env) call) h in
      let k = call_typed env m call f p.rest in
      record { after = env; core = core.Call k.core; stands = stands.call_stands k.calls; ready = m }
  stmt_typed (syntax.If s test first) env m d f h =
      let er = expr_row (context_of env) (Wants types.Truth) test in
      let br = block_row (context_of env) false first in
      let p = cons_parts (AStatement (context_of env) true (syntax.If s test first)) (er ++ br) h in
      let r = row_parts er br p.rest in
      let u = wanted_typed (can env m test f.0) types.Truth refl r.0 in
      let b = block_typed first env m d f.1 false r.1 in
      record { after = after_block env b.last; core = core.If u.core b.core; stands = stands.if_stands u.under b.stands; ready = m }
  stmt_typed (syntax.IfElse s test first second) env m d f h =
      let er = expr_row (context_of env) (Wants types.Truth) test in
      let br = block_row (context_of env) false first in
      let cr = block_row (context_of env) false second in
      let p = cons_parts (AStatement (context_of env) true (syntax.IfElse s test first second)) (er ++ (br ++ cr)) h in
      let r = row_parts er (br ++ cr) p.rest in
      let q = row_parts br cr r.1 in
      let u = wanted_typed (can env m test f.0) types.Truth refl r.0 in
      let b = block_typed first env m d f.1 false q.0 in
      let c = block_typed second (after_block env b.last) m d f.2 false q.1 in
      record { after = after_block env c.last; core = core.IfElse u.core b.core c.core; stands = stands.if_else_stands u.under b.stands c.stands; ready = m }
  stmt_typed (syntax.Map s name n body) env m d f h =
      let p = cons_parts (AStatement (context_of env) true (syntax.Map s name n body)) (block_row (rows.in_counted (context_of env) name n) false body) h in
      let l = sure (is_length n) p.first.r8 in
      let b = block_typed body (in_counted env name n) (in_counted_ready env name n m) d f false (counted_row env name n body l p.rest) in
      record { after = after_block env b.last; core = core.Map (next env) n b.core; stands = stands.map_stands (free_name env name.text p.first.r1) l b.stands; ready = m }
  stmt_typed (syntax.Upto s name n bound body) env m d f h =
      let er = expr_row (context_of env) (wants (index_type n)) bound in
      let br = block_row (rows.in_counted (context_of env) name n) false body in
      let p = cons_parts (AStatement (context_of env) true (syntax.Upto s name n bound body)) (er ++ br) h in
      let r = row_parts er br p.rest in
      let l = sure (is_length n) p.first.r8 in
      let u = index_wanted env n bound (can env m bound f.0) l r.0 in
      let b = block_typed body (in_counted env name n) (in_counted_ready env name n m) d f.1 false (counted_row env name n body l r.1) in
      record { after = after_block env b.last; core = core.Upto (next env) n u.core b.core; stands = stands.upto_stands (free_name env name.text p.first.r1) l u.under b.stands; ready = m }
  stmt_typed (syntax.Downto s name n bound body) env m d f h =
      let er = expr_row (context_of env) (wants (index_type n)) bound in
      let br = block_row (rows.in_counted (context_of env) name n) false body in
      let p = cons_parts (AStatement (context_of env) true (syntax.Downto s name n bound body)) (er ++ br) h in
      let r = row_parts er br p.rest in
      let l = sure (is_length n) p.first.r8 in
      let u = index_wanted env n bound (can env m bound f.0) l r.0 in
      let b = block_typed body (in_counted env name n) (in_counted_ready env name n m) d f.1 false (counted_row env name n body l r.1) in
      record { after = after_block env b.last; core = core.Downto (next env) n u.core b.core; stands = stands.downto_stands (free_name env name.text p.first.r1) l u.under b.stands; ready = m }
  stmt_typed (syntax.Forever s body) env m d f h =
      let p = cons_parts (AStatement (context_of env) true (syntax.Forever s body)) (block_row (rows.in_loop (context_of env)) false body) h in
      let b = block_typed body (in_loop env) m d f false p.rest in
      record { after = after_block env b.last; core = core.Forever b.core; stands = stands.forever_stands b.stands; ready = m }
  stmt_typed (syntax.Break s) env m d f h =
      let p = cons_parts (AStatement (context_of env) true (syntax.Break s)) [] h in
      record { after = env; core = core.Break; stands = stands.break_stands (sure env.allowed.may_break p.first.r42); ready = m }
  stmt_typed (syntax.Return s value) env m d f h =
      let p = cons_parts (AStatement (context_of env) true (syntax.Return s value)) (value_row (context_of env) value) h in
      let r = return_typed env m s value f p.first p.rest env.result refl in
      record { after = env; core = core.Return r.core; stands = stands.return_stands (sure env.allowed.may_return p.first.r41) r.returns; ready = m }
  stmt_typed (syntax.Assert s e) env m d f h =
      let p = cons_parts (AStatement (context_of env) true (syntax.Assert s e)) (expr_row (context_of env) (Wants types.Truth) e) h in
      let u = wanted_typed (can env m e f.1) types.Truth refl p.rest in
      record { after = env; core = core.Assert u.core (record { site = 0; kind = site.Assert; span = first_token s 6 }); stands = stands.assert_stands u.under (refl, refl); ready = m }
  stmt_typed (syntax.NoAlloc s body) env m d f h =
      let p = cons_parts (AStatement (context_of env) true (syntax.NoAlloc s body)) (block_row (rows.without (context_of env) narrowing.NoAlloc) false body) h in
      let b = block_typed body (without env narrowing.NoAlloc) m d f false p.rest in
      record { after = after_block env b.last; core = core.NoAlloc b.core; stands = stands.no_alloc_stands b.stands; ready = m }
  stmt_typed (syntax.NoBreak s body) env m d f h =
      let p = cons_parts (AStatement (context_of env) true (syntax.NoBreak s body)) (block_row (rows.without (context_of env) narrowing.NoBreak) false body) h in
      let b = block_typed body (without env narrowing.NoBreak) m d f false p.rest in
      record { after = after_block env b.last; core = core.NoBreak b.core; stands = stands.no_break_stands b.stands; ready = m }
  stmt_typed (syntax.NoReturn s body) env m d f h =
      let p = cons_parts (AStatement (context_of env) true (syntax.NoReturn s body)) (block_row (rows.without (context_of env) narrowing.NoReturn) false body) h in
      let b = block_typed body (without env narrowing.NoReturn) m d f false p.rest in
      record { after = after_block env b.last; core = core.NoReturn b.core; stands = stands.no_return_stands b.stands; ready = m }

  pub block_typed : (b : BlockSyntax) (env : Env) → Ready env → AllDetermined env.earlier.callees → FormedBlock b → (with_result : Bool) → first_of (block_row (context_of env) with_result b) ≡ None → BlockTyped env b
  block_typed (syntax.Braces s stmts) env m d f w h =
      let p = cons_parts (ABlock w (syntax.Braces s stmts)) (stmts_row (context_of env) true stmts) h in
      let a = all_typed stmts env m d f p.rest in
      record { last = a.last; core = a.core; stands = stands.braces a.stands }

  all_typed : (ss : StmtsSyntax) (env : Env) → Ready env → AllDetermined env.earlier.callees → FormedStmts ss → first_of (stmts_row (context_of env) true ss) ≡ None → AllTyped env ss
  all_typed syntax.NoStmts env m d f h = record { last = env; core = core.NoStmts; stands = stands.none_stand }
  all_typed (syntax.MoreStmts s syntax.NoStmts) env m d f h =
      let r = row_parts (stmt_row (context_of env) true s) [] h in
      let a = stmt_typed s env m d f.0 r.0 in
      record { last = a.after; core = core.MoreStmts a.core core.NoStmts; stands = stands.last_stands a.stands }
  all_typed (syntax.MoreStmts s (syntax.MoreStmts next_one rest)) env m d f h =
      let later = stmts_row (after_stmt (context_of env) s) (stmt_falls s) (syntax.MoreStmts next_one rest) in
      let r = row_parts (stmt_row (context_of env) true s) later h in
      let a = stmt_typed s env m d f.0 r.0 in
      let q = row_parts (stmt_row (after_stmt (context_of env) s) (stmt_falls s) next_one) (stmts_row (after_stmt (after_stmt (context_of env) s) next_one) (stmt_falls s && stmt_falls next_one) rest) r.1 in
      let falls : stmt_falls s ≡ true = head_reached (after_stmt (context_of env) s) (stmt_falls s) next_one q.0 in
      let row : first_of (stmts_row (context_of a.after) true (syntax.MoreStmts next_one rest)) ≡ None =
      ap (λ x. first_of (stmts_row x true (syntax.MoreStmts next_one rest))) (after_agrees a.stands d) ∙ ap (λ b. first_of (stmts_row (after_stmt (context_of env) s) b (syntax.MoreStmts next_one rest))) (sym falls) ∙ r.1 in
      let b = all_typed (syntax.MoreStmts next_one rest) a.after a.ready (callees_after a.stands d) f.1 row in
      record { last = b.last; core = core.MoreStmts a.core b.core; stands = stands.more_stand a.stands falls b.stands }
