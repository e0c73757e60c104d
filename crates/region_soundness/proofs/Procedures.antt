-- A procedure has a meaning wherever its arguments fit: its body stands in a frame of its own, and what it gives back fits in its caller.
use Rattle.std.proofs.Common.{◌≡◌, ◌⊎◌, ⊎_elim, inl, inr, ℕ, zero, suc, ◌+◌, ◌<◌, ◌≤◌, Bool, true, false, not, ◌||◌, List, [], ◌∷◌, ◌++◌, take, length, Option, Some, None, is_none, All, Contains, IsTrue, refl, sym, ◌∙◌, ap, subst, arith}
use Rattle.std.specs.Prelude.{slice_get, ◌==◌, if◌then◌else◌}
use Rattle.std.specs.Option.{option_map}
use Rattle.std.proofs.lemmas.Bool.{cases_lt, eqb-true, eq-eqb, false_from_ne_true}
use Rattle.std.proofs.lemmas.Option.{slice_get_within}
use Rattle.std.proofs.lemmas.List.Elements.{All-head, All-tail}
use Rattle.step_semantics.specs.Steps.{World, give, bind}
use Rattle.step_semantics.specs.Control.{Falls, Broke, Returned}
use Rattle.step_semantics.specs.Frames.{without, pop_frame}
use Rattle.step_semantics.specs.Safe.{HasMeaning, Safe}
use Rattle.step_semantics.proofs.Keeping.{keeps_after}
use Rattle.step_semantics.proofs.FrameLaws.{keeps_in_frame}
use Rattle.area_types.specs.Syntax as types
use Rattle.area_types.specs.Syntax.{ValueType}
use Rattle.area_types.specs.Tables.{Table}
use Rattle.area_types.specs.declared.region.Region.{Region}
use Rattle.area_types.specs.declared.region.Region.TheVariants.{Global, Param, Own}
use Rattle.region_check.specs.Calls.{reference_of}
use Rattle.region_check.specs.Found.{region_count}
use Rattle.region_check.specs.Substitutions.{under, applied, escapes}
use Rattle.core_tree.specs.Syntax.{ModuleCore, ParamCore, ProcCore}
use Rattle.std.proofs.lemmas.List.{length-map}
use Rattle.core_tree.specs.Types.{is_type, Fits}
use Rattle.core_tree.specs.Falling.{stmts_fall, stmts_break}
use Rattle.core_tree.specs.Environments.{Env}
use Rattle.core_tree.specs.TypedCalls.{ArgumentsFit}
use Rattle.core_tree.specs.TypedItems.{param_types, is_result, below, env_of, start, ProcTyped}
use Rattle.core_tree.specs.Valid.{ValidCore}
use Rattle.core_meaning.specs.Values.{Value, Num, Ref}
use Rattle.core_meaning.specs.Areas.{Areas, Gone, take_from}
use Rattle.core_meaning.specs.State.{State, numbered, enter, back}
use Rattle.core_meaning.specs.Conditions.{required, ensured}
use Rattle.core_meaning.specs.Calls.{Calls}
use Rattle.core_meaning.specs.Statements.{Flow, exec_all}
use Rattle.core_meaning.specs.Run.{result_of, body_of, procedure_call, with_procedure}
use Rattle.region_soundness.specs.Fitting.{Entry, Allows, Refers, RefersAs, ValueFits}
use Rattle.region_soundness.specs.Scoped.{name_in, NamesFit}
use Rattle.region_soundness.proofs.Known.{activation}
use Rattle.region_soundness.proofs.Lasting.{Lasting, ValuesFitAll, take_lasts, take_areas_fit}
use Rattle.region_soundness.proofs.Conditions.{Same, required_safe, ensured_safe}
use Rattle.region_soundness.proofs.Calls.{Caller, Called, CallsSafe, ImportsSafe}
use Rattle.region_soundness.proofs.Standing.{Entered, Stands, ResultFits, name_here, name_past, knows_parameters, result_early, Ended, Came}
use Rattle.region_soundness.proofs.Statements.{InitsSafe, fits_wanted, after_all, exec_all_safe}

-- ---- arguments

pub record Argument (core : ModuleCore) (entry : Entry) (areas : Areas) (regions : ℕ → Region) (args : List Value) (m : ℕ) (wanted : ValueType) : Type 0 where
  pub given : ValueType
  pub value : Value
  pub there : slice_get args m ≡ Some value
  pub fit : Fits (applied regions wanted) given
  pub fits : ValueFits core entry areas given value

pub argument : (core : ModuleCore) (entry : Entry) (areas : Areas) (regions : ℕ → Region) (params given : List ValueType) (args : List Value) → ArgumentsFit regions params given → ValuesFitAll core entry areas given args
    → (m : ℕ) (t : ValueType) → slice_get params m ≡ Some t → Argument core entry areas regions args m t
argument core entry areas regions [] given args h g m t e = let no : ⊥ = cc in absurd no
argument core entry areas regions (p ∷ params) [] args h g m t e = absurd h
argument core entry areas regions (p ∷ params) (u ∷ given) [] h g m t e = absurd g
argument core entry areas regions (p ∷ params) (u ∷ given) (v ∷ args) h g zero t e =
    let same : p ≡ t = cc in record { given = u; value = v; there = refl; fit = subst (λ x. Fits (applied regions x) u) same h.0; fits = g.0 }
argument core entry areas regions (p ∷ params) (u ∷ given) (v ∷ args) h g (suc m) t e =
    let a = argument core entry areas regions params given args h.1 g.1 m t e in
    record { given = a.given; value = a.value; there = a.there; fit = a.fit; fits = a.fits }

numbered_names : (k : ℕ) (args : List Value) (m j : ℕ) (v : Value) → j ≡ k + m → slice_get args m ≡ Some v → name_in (numbered k args) j ≡ Some v
numbered_names k [] m j v e h = let no : ⊥ = cc in absurd no
numbered_names k (a ∷ args) zero j v e h =
    let same : j ≡ k = omega (arith, e) in
    ap (name_in (numbered k (a ∷ args))) same ∙ name_here (numbered (suc k) args) k a ∙ h
numbered_names k (a ∷ args) (suc m) j v e h =
    name_past (numbered (suc k) args) k j a (λ same. omega (arith, e, same)) ∙ numbered_names (suc k) args m j v (omega (arith, e)) h

-- each name that a call begins with is one of those numbers
numbered_within : (k : ℕ) (args : List Value) (j : ℕ) (v : Value) → name_in (numbered k args) j ≡ Some v → j < k + length args
numbered_within k [] j v e = let no : ⊥ = cc in absurd no
numbered_within k (a ∷ args) j v e = go (k == j) refl (λ h. numbered_within (suc k) args j v h)
  where
    go : (b : Bool) → (k == j) ≡ b → (name_in (numbered (suc k) args) j ≡ Some v → j < suc k + length args) → j < k + length (a ∷ args)
    go true same later = let at : k ≡ j = eqb-true k j same in omega (arith, at)
    go false other later =
        let past : name_in (numbered k (a ∷ args)) j ≡ name_in (numbered (suc k) args) j = name_past (numbered (suc k) args) k j a (λ at. let no : ⊥ = (let yes = eq-eqb k j at in cc) in no) in
        omega (arith, later (sym past ∙ e))

given_long : (regions : ℕ → Region) (params given : List ValueType) → ArgumentsFit regions params given → length given ≡ length params
given_long regions [] [] h = refl
given_long regions [] (t ∷ given) h = absurd h
given_long regions (p ∷ params) [] h = absurd h
given_long regions (p ∷ params) (t ∷ given) h = ap suc (given_long regions params given h.1)

args_long : (core : ModuleCore) (entry : Entry) (areas : Areas) (given : List ValueType) (args : List Value) → ValuesFitAll core entry areas given args → length args ≡ length given
args_long core entry areas [] [] h = refl
args_long core entry areas [] (v ∷ args) h = absurd h
args_long core entry areas (t ∷ given) [] h = absurd h
args_long core entry areas (t ∷ given) (v ∷ args) h = ap suc (args_long core entry areas given args h.1)

below_long : (n : ℕ) → length (below n) ≡ n
below_long zero = refl
below_long (suc n) = ap suc (below_long n)

below_has : (n m : ℕ) → m < n → Contains (below n) m
below_has zero m lt = absurd (omega (arith, lt))
below_has (suc n) m lt = ⊎_elim (λ less. (let c = below_has n m less in (suc c.0, omega (arith, c.1), c.2))) (λ at_least. (zero, omega (arith, below_long n), let same : n ≡ m = omega (arith, lt, at_least) in same)) (cases_lt m n)

below_low : (n m : ℕ) → Contains (below n) m → m < n
below_low zero m (k, lt, e) = absurd (omega (arith, lt))
below_low (suc n) m (zero, lt, e) = omega (arith, e)
below_low (suc n) m (suc k, lt, e) = omega (arith, below_low n m (k, omega (arith, lt), e))

-- what stands before a place in a list
taken_none : {A : Type 0} (n k : ℕ) → slice_get {X = A} (take n []) k ≡ slice_get {X = A} [] k
taken_none zero k = refl
taken_none (suc n) k = refl

pub taken_before : {A : Type 0} (xs : List A) (n k : ℕ) → k < n → slice_get (take n xs) k ≡ slice_get xs k
taken_before [] n k lt = taken_none n k
taken_before (x ∷ xs) zero k lt = absurd (omega arith)
taken_before (x ∷ xs) (suc n) zero lt = refl
taken_before (x ∷ xs) (suc n) (suc k) lt = taken_before xs n k (omega arith)

-- a type of the outside of a body has no region Own
type_kept : (table : Table) (n : ℕ) (t : ValueType) → IsTrue (is_type table n t) → IsTrue (not (escapes t))
type_kept table n types.Truth h = refl
type_kept table n (types.Int kind) h = refl
type_kept table n (types.Ix k) h = refl
type_kept table n (types.Bits k) h = refl
type_kept table n (types.Ref c Global a) h = refl
type_kept table n (types.Ref c (Param j) a) h = refl
type_kept table n (types.Ref c Own a) h = let no : ⊥ = cc in absurd no

pub result_kept : (table : Table) (p : ProcCore) (r : Option ValueType) → IsTrue (is_result table p r) → (t : ValueType) → r ≡ Some t → IsTrue (not (escapes t))
result_kept table p None h t e = let no : ⊥ = cc in absurd no
result_kept table p (Some u) h t e = let same : u ≡ t = cc in subst (λ x. IsTrue (not (escapes x))) same (type_kept table (region_count 0 (param_types p)) u h)

param_kept : (table : Table) (n m : ℕ) (ts : List ValueType) (t : ValueType) → All (λ t. IsTrue (is_type table n t)) ts → slice_get ts m ≡ Some t → IsTrue (not (escapes t))
param_kept table n m [] t h e = let no : ⊥ = cc in absurd no
param_kept table n zero (u ∷ ts) t h e = let same : u ≡ t = cc in subst (λ x. IsTrue (not (escapes x))) same (type_kept table n u (All-head (λ t. IsTrue (is_type table n t)) u ts h))
param_kept table n (suc m) (u ∷ ts) t h e = param_kept table n m ts t (All-tail (λ t. IsTrue (is_type table n t)) u ts h) e

-- ---- from caller to callee and back

-- the arguments of a call, which is made from this state
module _ (core : ModuleCore) (entry : Entry) (s : State) (regions : ℕ → Region) (params given : List ValueType) (fit : ArgumentsFit regions params given) (args : List Value) (fits : ValuesFitAll core entry s.areas given args) where
  -- how the callee is entered
  abbrev pub callee : Entry
  callee = record { params = params; args = args; first = length s.areas }

  -- the argument for a reference parameter, in its caller
  passed_reference : (m k : ℕ) (path : List ℕ) (c : Bool) (r : Region) (a : types.Area) → slice_get params m ≡ Some (types.Ref c r a) → slice_get args m ≡ Some (Ref k path) → Refers core entry s.areas (record { constant = c; region = under regions r; area = a }) k path
  passed_reference m k path c r a e there =
      let x = argument core entry s.areas regions params given args fit fits m (types.Ref c r a) e in
      let same : x.value ≡ Ref k path = (let both : Some x.value ≡ Some (Ref k path) = sym x.there ∙ there in cc) in
      fits_wanted core entry s.areas (types.Ref c (under regions r) a) x.given (Ref k path) x.fit (subst (ValueFits core entry s.areas x.given) same x.fits)

  pub callee_entered : length core.areas ≤ length s.areas → Entered core callee
  callee_entered room = record {
    referred = λ j k r. let x = passed_reference r.place k r.path r.constant (Param j) r.target r.param_is r.arg_is in slice_get_within s.areas k _ x.live;
    globals = room;
  }

  -- a number fits alike in both
  plain_fits : (e f : Entry) (areas : Areas) (t : ValueType) (v : Value) → reference_of t ≡ None → ValueFits core e areas t v → ValueFits core f areas t v
  plain_fits e f areas t (Num v) none h = h
  plain_fits e f areas t (Ref k path) none h = absurd (subst (λ o. RefersAs core e areas o k path) none h)

  allowed_in : (m k : ℕ) (path : List ℕ) (c : Bool) (r : Region) (a : types.Area) → slice_get params m ≡ Some (types.Ref c r a) → slice_get args m ≡ Some (Ref k path) → IsTrue (not (escapes (types.Ref c r a)))
      → Allows (length core.areas) entry (under regions r) k → Allows (length core.areas) callee r k
  allowed_in m k path c Global a e there kept h = h
  allowed_in m k path c (Param j) a e there kept h = record { place = m; constant = c; target = a; path = path; param_is = e; arg_is = there }
  allowed_in m k path c Own a e there kept h = let no : ⊥ = cc in absurd no

  -- the argument fits its parameter in the callee
  param_fits : (m : ℕ) (t : ValueType) (v : Value) → slice_get params m ≡ Some t → IsTrue (not (escapes t)) → slice_get args m ≡ Some v → (given : ValueType) → Fits (applied regions t) given → ValueFits core entry s.areas given v → ValueFits core callee s.areas t v
  param_fits m types.Truth v e kept there g f h = plain_fits entry callee s.areas types.Truth v refl (fits_wanted core entry s.areas types.Truth g v f h)
  param_fits m (types.Int kind) v e kept there g f h = plain_fits entry callee s.areas (types.Int kind) v refl (fits_wanted core entry s.areas (types.Int kind) g v f h)
  param_fits m (types.Ix n) v e kept there g f h = plain_fits entry callee s.areas (types.Ix n) v refl (fits_wanted core entry s.areas (types.Ix n) g v f h)
  param_fits m (types.Bits n) v e kept there g f h = plain_fits entry callee s.areas (types.Bits n) v refl (fits_wanted core entry s.areas (types.Bits n) g v f h)
  param_fits m (types.Ref c r a) (Num v) e kept there g f h = fits_wanted core entry s.areas (types.Ref c (under regions r) a) g (Num v) f h
  param_fits m (types.Ref c r a) (Ref k path) e kept there g f h =
      let x = passed_reference m k path c r a e there in
      record { area = x.area; live = x.live; leads = x.leads; access = x.access; allowed = allowed_in m k path c r a e there kept x.allowed }

  -- what fits in the callee fits in its caller, with its regions replaced
  pub value_back : (areas : Areas) (t : ValueType) (v : Value) → IsTrue (not (escapes t)) → ValueFits core callee areas t v → ValueFits core entry areas (applied regions t) v
  value_back areas types.Truth v kept h = plain_fits callee entry areas types.Truth v refl h
  value_back areas (types.Int kind) v kept h = plain_fits callee entry areas (types.Int kind) v refl h
  value_back areas (types.Ix n) v kept h = plain_fits callee entry areas (types.Ix n) v refl h
  value_back areas (types.Bits n) v kept h = plain_fits callee entry areas (types.Bits n) v refl h
  value_back areas (types.Ref c r a) (Num v) kept h = h
  value_back areas (types.Ref c Global a) (Ref k path) kept h = record { area = h.area; live = h.live; leads = h.leads; access = h.access; allowed = h.allowed }
  value_back areas (types.Ref c (Param j) a) (Ref k path) kept h =
      let r = h.allowed in
      let x = passed_reference r.place k r.path r.constant (Param j) r.target r.param_is r.arg_is in
      record { area = h.area; live = h.live; leads = h.leads; access = h.access; allowed = x.allowed }
  value_back areas (types.Ref c Own a) (Ref k path) kept h = let no : ⊥ = cc in absurd no

  pub result_back : (areas : Areas) (r : Option ValueType) (v : Option Value) → ((t : ValueType) → r ≡ Some t → IsTrue (not (escapes t))) → ResultFits core callee areas r v → ResultFits core entry areas (option_map (applied regions) r) v
  result_back areas None None kept h = tt
  result_back areas None (Some v) kept h = h
  result_back areas (Some t) None kept h = h
  result_back areas (Some t) (Some v) kept h = value_back areas t v (kept t refl) h

  -- the parameters are in scope when the body begins
  pub params_named : (p : ProcCore) (earlier : List ProcCore) → ProcTyped core earlier p → param_types p ≡ params → NamesFit core s.areas (activation (env_of core earlier p) (below (length p.params)) callee) (numbered 0 args)
  params_named p earlier t same m ty c e =
      let low = below_low (length p.params) m c in
      let at : slice_get params m ≡ Some ty = ap (λ ts. slice_get ts m) (sym (t.params_first ∙ same)) ∙ taken_before p.locals (length p.params) m low ∙ e in
      let kept = param_kept core.structs (region_count 0 params) m params ty (subst (λ ts. All (λ t. IsTrue (is_type core.structs (region_count 0 ts) t)) ts) same t.params.types) at in
      let x = argument core entry s.areas regions params given args fit fits m ty at in
      record { value = x.value; has = numbered_names 0 args m m x.value (omega arith) x.there; fits = param_fits m ty x.value at kept x.there x.given x.fit x.fits }

-- ---- procedures

-- what a body gives back, without its names and areas
module _ (core : ModuleCore) (valid : ValidCore core) (imports_safe : ImportsSafe core) (inits_safe : (env : Env) → ValidCore env.core → env.outcome ≡ None → (entry : Entry) → InitsSafe env entry) where
  module _ (earlier : List ProcCore) (calls : Calls) (calls_safe : CallsSafe core earlier calls) (p : ProcCore) (t : ProcTyped core earlier p) where
    abbrev env : Env
    env = env_of core earlier p

    abbrev base : List ℕ
    base = below (length p.params)

    kept : (ty : ValueType) → p.result ≡ Some ty → IsTrue (not (escapes ty))
    kept = result_kept core.structs p p.result t.result

    -- the end of a body falls off only where there is no result
    fallen : (b : Bool) (r : Option ValueType) (e : Entry) (areas : Areas) → IsTrue (is_none r || not b) → IsTrue b → ResultFits core e areas r None
    fallen true None e areas h g = tt
    fallen true (Some ty) e areas h g = let no : ⊥ = cc in absurd no
    fallen false r e areas h g = let no : ⊥ = cc in absurd no

    abbrev AtEnd : Entry → State → Flow → State → Type 0
    AtEnd entry s = Came env base entry s (after_all p.body (start p)).scope (after_all p.body (start p)).next (stmts_fall p.body) (stmts_break p.body) false

    given_back : (entry : Entry) (s : State) (flow : Flow) (u : State) → AtEnd entry s flow u → (n : ℕ) (w : World) → Safe (Ended env base entry s) (result_of core (ensured core p) flow n w u)
    given_back entry s Falls u c n w =
        let fits = fallen (stmts_fall p.body) p.result entry u.areas t.returns c.reached in
        keeps_after HasMeaning (Same u) (Ended env base entry s) (ensured core p None n w u) (λ t. give None)
        (ensured_safe env valid entry p base t.contracts u None (knows_parameters env base entry (after_all p.body (start p)).scope (after_all p.body (start p)).next u c.stands) fits n w)
        (λ x v e m z. subst (λ y. Ended env base entry s None y) (sym e) (record { lasts = c.lasts; areas = c.stands.knows.areas; fits = fits }))
    given_back entry s Broke u c n w = let no : ⊥ = (let a = c.allowed in cc) in absurd no
    given_back entry s (Returned result) u c n w = c

    body_safe : (entry : Entry) → Entered core entry → (s : State) → Stands env base base (length p.params) entry s → (n : ℕ) (w : World) → Safe (Ended env base entry s) (body_of core calls p n w s)
    body_safe entry entered s st n w =
        let post = Ended env base entry s in
        let known = knows_parameters env base entry base (length p.params) s st in
        keeps_after HasMeaning (Same s) post (required core p n w s) (λ t. bind (exec_all core calls (ensured core p) p.body) (result_of core (ensured core p))) (required_safe env valid entry p base t.contracts s refl known n w)
        (λ u v e m z. subst (λ x. Safe post (bind (exec_all core calls (ensured core p) p.body) (result_of core (ensured core p)) m z x)) (sym e)
        (keeps_after HasMeaning (AtEnd entry s) post (exec_all core calls (ensured core p) p.body m z s) (result_of core (ensured core p))
        (exec_all_safe env valid refl calls calls_safe imports_safe base entry entered kept (ensured core p) (λ u result. ensured_safe env valid entry p base t.contracts u result) (inits_safe env valid refl entry) p.body (start p) t.body s st m z)
        (λ flow u c j q. given_back entry s flow u c j q)))

    -- ---- its call

    -- from the state in which its body ended to that of its caller
    returned : (entry : Entry) (s : State) (regions : ℕ → Region) (given : List ValueType) (fit : ArgumentsFit regions (param_types p) given) (args : List Value) (fits : ValuesFitAll core entry s.areas given args) → Caller core s
        → (result : Option Value) (u : State) → Ended env base (callee core entry s regions (param_types p) given fit args fits) (enter args s) result u → Called core entry s (option_map (applied regions) p.result) result (back u)
    returned entry s regions given fit args fits caller result u c =
        let entered = callee_entered core entry s regions (param_types p) given fit args fits caller.room in
        let first : u.frames.own.first ≡ length s.areas = c.lasts.first in
        let popped : pop_frame u.frames ≡ s.frames = ap (without u.frames.own) c.lasts.callers in
        let lasting : Lasting s.areas (take_from u.frames.own.first u.areas) = subst (λ k. Lasting s.areas (take_from k u.areas)) (sym first) (take_lasts s.areas u.areas c.lasts.areas) in
        let early = result_early core (callee core entry s regions (param_types p) given fit args fits) entered (λ a. Gone) u.frames.own.first (omega (arith, first)) u.areas p.result result kept c.fits in
        record {
          lasts = record { areas = lasting; first = ap (λ f. f.own.first) popped; callers = ap (λ f. f.callers) popped };
          names = ap (λ f. f.own.names) popped;
          areas = take_areas_fit core.structs u.areas u.frames.own.first c.areas;
          fits = result_back core entry s regions (param_types p) given fit args fits (take_from u.frames.own.first u.areas) p.result result kept early;
        }

    pub procedure_safe : (entry : Entry) (s : State) → Caller core s → (regions : ℕ → Region) (given : List ValueType) → ArgumentsFit regions (param_types p) given → (args : List Value) → ValuesFitAll core entry s.areas given args
        → (n : ℕ) (w : World) → Safe (Called core entry s (option_map (applied regions) p.result)) (procedure_call core calls p args n w s)
    procedure_safe entry s caller regions given fit args fits n w =
        let inner = callee core entry s regions (param_types p) given fit args fits in
        let entered = callee_entered core entry s regions (param_types p) given fit args fits caller.room in
        let stands : Stands env base base (length p.params) inner (enter args s) = record {
          knows = record { areas = caller.areas; globals = caller.globals; names = params_named core entry s regions (param_types p) given fit args fits p earlier t refl };
          below = below_low (length p.params);
          parameters = λ m c. c;
          room = omega arith;
          named = λ m v e. below_has (length p.params) m (omega (arith, numbered_within 0 args m v e, args_long core entry s.areas given args fits, given_long regions (param_types p) given fit, length-map p.params (λ (x : ParamCore). x.ty)));
          args = λ m v e. numbered_names 0 args m m v (omega arith) e;
        } in
        keeps_in_frame HasMeaning (Ended env base inner (enter args s)) (Called core entry s (option_map (applied regions) p.result)) (enter args) back (body_of core calls p) n w s
        (returned entry s regions given fit args fits caller) (body_safe inner entered (enter args s) stands n w)

  -- ---- one procedure more that may be called

  last_or_before : {A : Type 0} (xs : List A) (x y : A) (k : ℕ) → slice_get (xs ++ x ∷ []) k ≡ Some y → ((k ≡ length xs) × (x ≡ y)) ⊎ ((k < length xs) × (slice_get xs k ≡ Some y))
  last_or_before [] x y zero e = inl (refl, let same : x ≡ y = cc in same)
  last_or_before [] x y (suc k) e = let no : ⊥ = cc in absurd no
  last_or_before (a ∷ xs) x y zero e = inr (omega arith, e)
  last_or_before (a ∷ xs) x y (suc k) e = ⊎_elim (λ h. inl (ap suc h.0, h.1)) (λ h. inr (omega (arith, h.0), h.1)) (last_or_before xs x y k e)

  pub calls_more : (earlier : List ProcCore) (calls : Calls) → CallsSafe core earlier calls → (p : ProcCore) → ProcTyped core earlier p → CallsSafe core (earlier ++ p ∷ []) (with_procedure core calls (length earlier) p)
  calls_more earlier calls safe p t k q e entry s caller regions given fit args fits n w = ⊎_elim (λ h. last h.0 h.1) (λ h. before h.0 h.1) (last_or_before earlier p q k e)
    where
      chosen : (b : Bool) → length earlier == k ≡ b → Safe (Called core entry s (option_map (applied regions) q.result)) ((if b then procedure_call core calls p args else calls k args) n w s) → Safe (Called core entry s (option_map (applied regions) q.result)) (with_procedure core calls (length earlier) p k args n w s)
      chosen b e h = subst (λ x. Safe (Called core entry s (option_map (applied regions) q.result)) ((if x then procedure_call core calls p args else calls k args) n w s)) (sym e) h

      last : k ≡ length earlier → p ≡ q → Safe (Called core entry s (option_map (applied regions) q.result)) (with_procedure core calls (length earlier) p k args n w s)
      last at same = chosen true (eq-eqb (length earlier) k (sym at))
          (subst (λ (x : ProcCore). ArgumentsFit regions (param_types x) given → Safe (Called core entry s (option_map (applied regions) x.result)) (procedure_call core calls p args n w s)) same
          (λ fit. procedure_safe earlier calls safe p t entry s caller regions given fit args fits n w) fit)

      before : k < length earlier → slice_get earlier k ≡ Some q → Safe (Called core entry s (option_map (applied regions) q.result)) (with_procedure core calls (length earlier) p k args n w s)
      before lt there = chosen false (false_from_ne_true (length earlier == k) (λ x. let same = eqb-true (length earlier) k x in omega (arith, lt, same))) (safe k q there entry s caller regions given fit args fits n w)
