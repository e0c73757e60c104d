-- Each reference of an expression of a procedure leads to an area that is declared: what parameters, results, calls and allocated areas have is met,
-- and a part of what is declared is declared.
use Rattle.std.proofs.Common.{◌≡◌, ◌⊎◌, inl, inr, ⊎_elim, ℕ, zero, suc, ◌+◌, ◌<◌, ◌≤◌, Bool, true, false, List, [], ◌∷◌, length, take, if◌then◌else◌, slice_get, Contains, Option, Some, None, option_map, refl, sym, ◌∙◌, ap, subst, arith, ltb-false}
use Rattle.std.specs.Prelude.{nat_lt}
use Rattle.std.proofs.lemmas.Option.{slice_get_within}
use Rattle.run_records.specs.declared.Plain.{Plain}
use Rattle.run_records.specs.declared.Plain.TheVariants as plain
use Rattle.alloc_effects.specs.declared.Narrowing.TheVariants as without
use Rattle.area_types.specs.Syntax.{ValueType, Truth, Int, Ix, Bits, Ref, Area, Stored, Array, Struct, StructType}
use Rattle.area_types.specs.Tables.{structs_of}
use Rattle.area_types.specs.declared.region.Region.{Region}
use Rattle.area_types.specs.declared.region.Region.TheVariants.{Own}
use Rattle.area_types.proofs.Truths.{is_below}
use Rattle.region_check.specs.Substitutions.{applied}
use Rattle.core_tree.specs.Syntax.{StmtCore, Let, LetCall, Alloc, Store, Copy, Call, If, IfElse, Map, Upto, Downto, Forever, Break, Return, Assert, NoAlloc, NoBreak, NoReturn, StmtsCore, NoStmts, MoreStmts, ExprCore, CallCore, ImportCore, ProcCore, ModuleCore, type_of}
use Rattle.core_tree.specs.Environments.{Env, Point, Header, header_of, type_of_plain, locals_in, all_locals, after, skipping, narrowing, looping, within_loop, struct_field}
use Rattle.core_tree.specs.TypedCalls.{CallHasType}
use Rattle.core_tree.specs.TypedExpressions.{ExprTyped}
use Rattle.core_tree.specs.TypedItems.{ProcTyped, env_of, param_types, start, below}
use Rattle.core_tree.specs.TypedStatements.{IsNext, StmtTyped, StmtsTyped, LoopTyped}
use Rattle.core_tree.specs.Valid.{ValidCore}
use Rattle.region_soundness.proofs.Structs.{core_area_made, struct_field_is}
use Rattle.lower_types.specs.Arrays.{Declared, met_stmt, met_stmts}
use Rattle.lowered_surroundings.proofs.Collected.{TypeKnown, AllMet, area_known, stmt_grows, stmts_grow, proc_typed, with_head, met_params_known, met_result_known, body_good}
use Rattle.lowered_surroundings.proofs.DeclaredTypes.{parts_declared}
use Rattle.lowered_surroundings.proofs.ExpressionTypes.{Passes, types_hold, no_outcome}
use Rattle.lowered_surroundings.proofs.Meeting.{Known, FieldsKnown, Good}

contains_cases : (x z : ℕ) (xs : List ℕ) → Contains (x ∷ xs) z → (x ≡ z) ⊎ Contains xs z
contains_cases x z xs (zero, lt, e) = inl e
contains_cases x z xs (suc k, lt, e) = inr (k, omega arith, e)

module _ (core : ModuleCore) (valid : ValidCore core) (all : Declared) (every : AllMet core all) where
  abbrev structs : List StructType
  structs = structs_of core.structs

  abbrev words : ℕ
  words = length core.structs.words

  abbrev TypeHere : ValueType → Type 0
  TypeHere ty = TypeKnown core all ty

  -- ---- parts

  stored_known : (ty : ValueType) → Known structs words all (Stored ty) → TypeHere ty
  stored_known Truth k = tt
  stored_known (Int kind) k = tt
  stored_known (Ix n) k = tt
  stored_known (Bits j) k = tt
  stored_known (Ref constant region area) k = let no : ⊥ = cc in absurd no

  field_known : (k f : ℕ) (area : Area) → struct_field core k f ≡ Some area → Known structs words all (Struct k) → Known structs words all area
  field_known k f area e known =
      let p : FieldsKnown structs words all k = parts_declared core valid all [] all (Struct k) every.good.ordered known in
      let s = struct_field_is core k f area e in
      let same : Some s.struct_type ≡ Some p.struct_type = sym s.found ∙ p.found in
      let there : slice_get p.struct_type.fields f ≡ Some s.held = subst (λ (x : StructType). slice_get x.fields f ≡ Some s.held) (let z : s.struct_type ≡ p.struct_type = cc in z) s.there in
      subst (Known structs words all) s.area_is (p.fields f s.held there)

  -- ---- expressions

  known_passes : (env : Env) → env.core ≡ core → ((ty : ValueType) → env.outcome ≡ Some ty → TypeHere ty) → (scope : List ℕ)
      → ((x : ℕ) (ty : ValueType) → Contains scope x → slice_get env.locals x ≡ Some ty → TypeHere ty) → Passes env scope TypeHere
  known_passes env own named scope locals = record {
    truth = tt;
    int = λ kind. tt;
    index = λ n h. tt;
    bits = λ j. tt;
    area = λ j a e. every.areas j a (subst (λ (c : ModuleCore). slice_get c.areas j ≡ Some a) own e);
    local = locals;
    outcome = named;
    stored = λ constant region ty k. stored_known ty k;
    field = λ constant region j f area e k. field_known j f area (subst (λ (c : ModuleCore). struct_field c j f ≡ Some area) own e) k;
    element = λ constant region n area k. parts_declared core valid all [] all (Array n area) every.good.ordered k;
  }

  -- ---- results of calls

  applied_known : (regions : ℕ → Region) (ty : ValueType) → TypeHere ty → TypeHere (applied regions ty)
  applied_known regions Truth k = tt
  applied_known regions (Int kind) k = tt
  applied_known regions (Ix n) k = tt
  applied_known regions (Bits j) k = tt
  applied_known regions (Ref constant region area) k = k

  plain_known : (r : Option Plain) (ty : ValueType) → option_map type_of_plain r ≡ Some ty → TypeHere ty
  plain_known None ty e = let no : ⊥ = cc in absurd no
  plain_known (Some plain.Truth) ty e = let same : Truth ≡ ty = cc in subst TypeHere same tt
  plain_known (Some (plain.Int kind)) ty e = let same : Int kind ≡ ty = cc in subst TypeHere same tt

  module _ (earlier : List ProcCore) (results : (k : ℕ) (q : ProcCore) → slice_get earlier k ≡ Some q → (ty : ValueType) → q.result ≡ Some ty → TypeHere ty) (p : ProcCore) where
    abbrev around : Env
    around = env_of core earlier p

    import_known : (o : Option ImportCore) (header : Header) (ty : ValueType) → option_map (λ (i : ImportCore). let h : Header = record { params = i.params; result = option_map type_of_plain i.result } in h) o ≡ Some header
        → header.result ≡ Some ty → TypeHere ty
    import_known None header ty e r = let no : ⊥ = cc in absurd no
    import_known (Some i) header ty e r =
        let h : Header = record { params = i.params; result = option_map type_of_plain i.result } in
        let same : h ≡ header = cc in
        plain_known i.result ty (ap (λ (x : Header). x.result) same ∙ r)

    proc_known : (number : ℕ) (o : Option ProcCore) → slice_get earlier number ≡ o → (header : Header) (ty : ValueType)
        → option_map (λ (q : ProcCore). let h : Header = record { params = param_types q; result = q.result } in h) o ≡ Some header → header.result ≡ Some ty → TypeHere ty
    proc_known number None f header ty e r = let no : ⊥ = cc in absurd no
    proc_known number (Some q) f header ty e r =
        let h : Header = record { params = param_types q; result = q.result } in
        let same : h ≡ header = cc in
        results number q f ty (ap (λ (x : Header). x.result) same ∙ r)

    header_known : (c : CallCore) (header : Header) (ty : ValueType) → header_of around c ≡ Some header → header.result ≡ Some ty → TypeHere ty
    header_known c header ty e r = go c.import e
      where
        go : (b : Bool) → (if b then option_map (λ (i : ImportCore). let h : Header = record { params = i.params; result = option_map type_of_plain i.result } in h) (slice_get core.imports c.callee)
            else option_map (λ (q : ProcCore). let h : Header = record { params = param_types q; result = q.result } in h) (slice_get earlier c.callee)) ≡ Some header → TypeHere ty
        go true e = import_known (slice_get core.imports c.callee) header ty e r
        go false e = proc_known c.callee (slice_get earlier c.callee) refl header ty e r

    call_known : (scope : List ℕ) (c : CallCore) (ty : ValueType) → CallHasType around scope c ty → TypeHere ty
    call_known scope c ty t = subst TypeHere (sym t.type) (applied_known t.typed.regions t.given (header_known c t.typed.header t.given t.typed.callee t.result))

    -- ---- statements

    abbrev LocalsKnown : ℕ → Type 0
    LocalsKnown n = (x : ℕ) (ty : ValueType) → x < n → slice_get p.locals x ≡ Some ty → TypeHere ty

    abbrev ScopeBelow : Point → Type 0
    ScopeBelow at = (x : ℕ) → Contains at.scope x → x < at.next

    expr_known : (at : Point) → ScopeBelow at → LocalsKnown at.next → (e : ExprCore) → ExprTyped around at.scope e → TypeHere (type_of e)
    expr_known at low known e t = types_hold around at.scope TypeHere (known_passes around refl (λ ty none. absurd (no_outcome ty none)) at.scope (λ x ty inside f. known x ty (low x inside) f)) e t

    fewer : (m n : ℕ) → m ≤ n → LocalsKnown n → LocalsKnown m
    fewer m n le known x ty low e = known x ty (omega (arith, low, le)) e

    one_more : (at : Point) (number : ℕ) (ty : ValueType) → IsNext around at number ty → TypeHere ty → LocalsKnown at.next → LocalsKnown (suc at.next)
    one_more at number ty next here known x u low e = go (nat_lt x at.next) refl
      where
        go : (b : Bool) → nat_lt x at.next ≡ b → TypeHere u
        go true f = known x u (is_below x at.next f) e
        go false f =
            let same : x ≡ number = omega (arith, low, ltb-false x at.next f, next.number_is) in
            let both : Some u ≡ Some ty = sym e ∙ ap (slice_get p.locals) same ∙ next.type in
            let types : ty ≡ u = cc in
            subst TypeHere types here

    scope_more : (at : Point) (number : ℕ) → number ≡ at.next → ScopeBelow at → (x : ℕ) → Contains (number ∷ at.scope) x → x < suc at.next
    scope_more at number e low x c = ⊎_elim (λ same. omega (arith, same, e)) (λ c'. omega (arith, low x c')) (contains_cases number x at.scope c)

    scope_on : (n : ℕ) (at : Point) → ScopeBelow at → (x : ℕ) → Contains at.scope x → x < at.next + n
    scope_on n at low x c = omega (arith, low x c)

    after_below : (at : Point) (s : StmtCore) → StmtTyped around at s → ScopeBelow at → ScopeBelow (after s at)
    after_below at (Let number value) t low = λ x c. omega (arith, scope_more at number t.name.number_is low x c)
    after_below at (LetCall number call) t low = λ x c. omega (arith, scope_more at number t.name.number_is low x c)
    after_below at (Alloc number area init) t low = λ x c. omega (arith, scope_more at number t.name.number_is low x c)
    after_below at (Store target value) t low = scope_on 0 at low
    after_below at (Copy target source) t low = scope_on 0 at low
    after_below at (Call call) t low = scope_on 0 at low
    after_below at (If test first) t low = scope_on (all_locals first) at low
    after_below at (IfElse test first second) t low = scope_on (all_locals first + all_locals second) at low
    after_below at (Map number size body) t low = scope_on (1 + all_locals body) at low
    after_below at (Upto number size bound body) t low = scope_on (1 + all_locals body) at low
    after_below at (Downto number size bound body) t low = scope_on (1 + all_locals body) at low
    after_below at (Forever body) t low = scope_on (all_locals body) at low
    after_below at Break t low = scope_on 0 at low
    after_below at (Return value) t low = scope_on 0 at low
    after_below at (Assert cond check) t low = scope_on 0 at low
    after_below at (NoAlloc body) t low = scope_on (all_locals body) at low
    after_below at (NoBreak body) t low = scope_on (all_locals body) at low
    after_below at (NoReturn body) t low = scope_on (all_locals body) at low

    abbrev Kept : Declared → Type 0
    Kept d = (a : Area) → Known structs words d a → Known structs words all a

    abbrev GoodHere : Declared → Type 0
    GoodHere d = Good structs words (length structs) d

    named_more : (at : Point) (number : ℕ) (ty : ValueType) → IsNext around at number ty → TypeHere ty → LocalsKnown at.next → LocalsKnown (at.next + 1)
    named_more at number ty next here known = fewer (at.next + 1) (suc at.next) (omega arith) (one_more at number ty next here known)

    none_more : (at : Point) → LocalsKnown at.next → LocalsKnown (at.next + 0)
    none_more at known = fewer (at.next + 0) at.next (omega arith) known

    -- from what is shown of the body
    loop_known : (at : Point) (number size : ℕ) (body : StmtsCore) → LoopTyped around at number size
        → (ScopeBelow (within_loop number at) → LocalsKnown (suc at.next) → LocalsKnown (suc at.next + all_locals body)) → ScopeBelow at → LocalsKnown at.next → LocalsKnown (at.next + (1 + all_locals body))
    loop_known at number size body t inner low known =
        fewer (at.next + (1 + all_locals body)) (suc at.next + all_locals body) (omega arith)
        (inner (scope_more at number t.name.number_is low) (one_more at number (Ix size) t.name tt known))

    mutual
      stmt_known : (at : Point) (d : Declared) (s : StmtCore) → GoodHere d → Kept (met_stmt d s) → StmtTyped around at s → ScopeBelow at → LocalsKnown at.next → LocalsKnown (at.next + locals_in s)
      stmt_known at d (Let number value) g kept t low known = named_more at number (type_of value) t.name (expr_known at low known value t.typed) known
      stmt_known at d (LetCall number call) g kept t low known = named_more at number t.ty t.name (call_known at.scope call t.ty t.value) known
      stmt_known at d (Alloc number area init) g kept t low known =
          named_more at number (Ref false Own area) t.name (kept area (area_known core d area (core_area_made core.structs area t.area_is) g)) known
      stmt_known at d (If test first) g kept t low known = stmts_known at d first g kept t.1 low known
      stmt_known at d (IfElse test first second) g kept t low known =
          let grown = stmts_grow core around refl d at first t.1 in
          let on = stmts_grow core around refl (met_stmts d first) (skipping (all_locals first) at) second t.2 in
          let once : LocalsKnown (at.next + all_locals first) = stmts_known at d first g (λ a k. kept a (on.kept a k)) t.1 low known in
          let twice : LocalsKnown (at.next + all_locals first + all_locals second) =
          stmts_known (skipping (all_locals first) at) (met_stmts d first) second (grown.good g) kept t.2 (scope_on (all_locals first) at low) once in
          fewer (at.next + (all_locals first + all_locals second)) (at.next + all_locals first + all_locals second) (omega arith) twice
      stmt_known at d (Map number size body) g kept t low known = loop_known at number size body t.0 (stmts_known (within_loop number at) d body g kept t.1) low known
      stmt_known at d (Upto number size bound body) g kept t low known = loop_known at number size body t.0 (stmts_known (within_loop number at) d body g kept t.2) low known
      stmt_known at d (Downto number size bound body) g kept t low known = loop_known at number size body t.0 (stmts_known (within_loop number at) d body g kept t.2) low known
      stmt_known at d (Forever body) g kept t low known = stmts_known (looping at) d body g kept t low known
      stmt_known at d (NoAlloc body) g kept t low known = stmts_known (narrowing without.NoAlloc at) d body g kept t low known
      stmt_known at d (NoBreak body) g kept t low known = stmts_known (narrowing without.NoBreak at) d body g kept t low known
      stmt_known at d (NoReturn body) g kept t low known = stmts_known (narrowing without.NoReturn at) d body g kept t low known
      stmt_known at d (Store target value) g kept t low known = none_more at known
      stmt_known at d (Copy target source) g kept t low known = none_more at known
      stmt_known at d (Call call) g kept t low known = none_more at known
      stmt_known at d Break g kept t low known = none_more at known
      stmt_known at d (Return value) g kept t low known = none_more at known
      stmt_known at d (Assert cond check) g kept t low known = none_more at known

      stmts_known : (at : Point) (d : Declared) (ss : StmtsCore) → GoodHere d → Kept (met_stmts d ss) → StmtsTyped around at ss → ScopeBelow at → LocalsKnown at.next → LocalsKnown (at.next + all_locals ss)
      stmts_known at d NoStmts g kept t low known = none_more at known
      stmts_known at d (MoreStmts s ss) g kept t low known =
          let grown = stmt_grows core around refl d at s t.0 in
          let on = stmts_grow core around refl (met_stmt d s) (after s at) ss t.2 in
          let once : LocalsKnown (at.next + locals_in s) = stmt_known at d s g (λ a k. kept a (on.kept a k)) t.0 low known in
          fewer (at.next + (locals_in s + all_locals ss)) (at.next + locals_in s + all_locals ss) (omega arith)
          (stmts_known (after s at) (met_stmt d s) ss (grown.good g) kept t.2 (after_below at s t.0 low) once)

-- ---- all locals of a procedure

taken : {A : Type 0} (n : ℕ) (xs : List A) (k : ℕ) (x : A) → slice_get (take n xs) k ≡ Some x → slice_get xs k ≡ Some x
taken zero xs k x e = let no : ⊥ = cc in absurd no
taken (suc n) [] k x e = let no : ⊥ = cc in absurd no
taken (suc n) (y ∷ xs) zero x e = e
taken (suc n) (y ∷ xs) (suc k) x e = taken n xs k x e

taken_front : {A : Type 0} (n : ℕ) (xs : List A) (k : ℕ) (x : A) → k < n → slice_get xs k ≡ Some x → slice_get (take n xs) k ≡ Some x
taken_front zero xs k x low e = absurd (omega (arith, low))
taken_front (suc n) [] k x low e = let no : ⊥ = cc in absurd no
taken_front (suc n) (y ∷ xs) zero x low e = e
taken_front (suc n) (y ∷ xs) (suc k) x low e = taken_front n xs k x (omega (arith, low)) e

below_is_less : (n x : ℕ) → Contains (below n) x → x < n
below_is_less zero x (k, lt, e) = absurd (omega (arith, lt))
below_is_less (suc n) x c = ⊎_elim (λ same. omega (arith, same)) (λ c'. omega (arith, below_is_less n x c')) (contains_cases n x (below n) c)

module _ (core : ModuleCore) (valid : ValidCore core) (all : Declared) (every : AllMet core all) (k : ℕ) (p : ProcCore) (at_k : slice_get core.procs k ≡ Some p) where
  earlier_results : (j : ℕ) (q : ProcCore) → slice_get (take k core.procs) j ≡ Some q → (ty : ValueType) → q.result ≡ Some ty → TypeKnown core all ty
  earlier_results j q e ty r = let at_j = taken k core.procs j q e in met_result_known core all q (proc_typed core valid j q at_j) (every.procs j q at_j) ty r

  params_here : (x : ℕ) (ty : ValueType) → x < length p.params → slice_get p.locals x ≡ Some ty → TypeKnown core all ty
  params_here x ty low e =
      let typed : ProcTyped core (take k core.procs) p = valid.procs k p at_k in
      met_params_known core all p (proc_typed core valid k p at_k) (every.procs k p at_k) x ty
      (ap (λ ts. slice_get ts x) (sym typed.params_first) ∙ taken_front (length p.params) p.locals x ty low e)

  pub locals_known : (x : ℕ) (ty : ValueType) → slice_get p.locals x ≡ Some ty → TypeKnown core all ty
  locals_known x ty e =
      let typed : ProcTyped core (take k core.procs) p = valid.procs k p at_k in
      let met = every.procs k p at_k in
      let low : x < length p.locals = slice_get_within p.locals x ty e in
      stmts_known core valid all every (take k core.procs) earlier_results p (start p) (with_head core met.before p) p.body (body_good core all p (proc_typed core valid k p at_k) met) (λ a known. met.later.kept a known) typed.body
      (below_is_less (length p.params)) params_here x ty (omega (arith, low, typed.counted)) e

  pub result_known : (ty : ValueType) → p.result ≡ Some ty → TypeKnown core all ty
  result_known = met_result_known core all p (proc_typed core valid k p at_k) (every.procs k p at_k)

  -- in a body, or where the result may be named
  pub types_known : (outcome : Option ValueType) → ((ty : ValueType) → outcome ≡ Some ty → TypeKnown core all ty) → (scope : List ℕ) (e : ExprCore)
      → ExprTyped (record (env_of core (take k core.procs) p) { outcome = outcome }) scope e → TypeKnown core all (type_of e)
  types_known outcome named scope e t =
      let env : Env = record (env_of core (take k core.procs) p) { outcome = outcome } in
      types_hold env scope (TypeKnown core all) (known_passes core valid all every env refl named scope (λ x ty inside f. locals_known x ty f)) e t
