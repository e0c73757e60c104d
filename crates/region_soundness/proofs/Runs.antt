-- No run is undefined: each entry call is of an exported procedure, whose arguments fit, and leaves the areas as they must be.
use Rattle.std.proofs.Common.{◌≡◌, ℕ, zero, suc, ℤ, Bool, true, false, ◌&&◌, List, [], ◌∷◌, ◌++◌, map, take, length, Option, Some, None, All, IsTrue, refl, sym, ◌∙◌, ap, subst, arith, length-append, append_assoc}
use Rattle.std.specs.Prelude.{pos, negsuc, int_le, int_lt, slice_get, if◌then◌else◌}
use Rattle.std.specs.Option.{option_map, option_and_then}
use Rattle.std.proofs.lemmas.Bool.{and_from, lt-ltb}
use Rattle.std.proofs.lemmas.List.Elements.{All-head, All-tail}
use Rattle.iv_words.specs.Words.{same_word}
use Rattle.run_records.specs.declared.Export.{Export}
use Rattle.run_records.specs.declared.Plain.{Plain}
use Rattle.run_records.specs.declared.Plain.TheVariants as plain
use Rattle.run_records.specs.Scripts.{plain_fits, values_fit, export_of, found_fits}
use Rattle.step_semantics.specs.Steps.{World, Part, bind}
use Rattle.step_semantics.specs.Safe.{HasMeaning, Safe}
use Rattle.step_semantics.proofs.Keeping.{keeps_after}
use Rattle.step_semantics.proofs.Safety.{run_never_undefined}
use Rattle.area_types.proofs.Truths.{both, is_at_most}
use Rattle.area_types.specs.Syntax as types
use Rattle.area_types.specs.Syntax.{ValueType, Name}
use Rattle.area_types.specs.Tables.{Table}
use Rattle.area_types.specs.declared.region.Region.TheVariants.{Global}
use Rattle.region_check.specs.Substitutions.{applied}
use Rattle.source_types.specs.Values.{is_plain}
use Rattle.core_tree.specs.Syntax.{ModuleCore, ParamCore, ProcCore}
use Rattle.core_tree.specs.Types.{is_value, Fits}
use Rattle.core_tree.specs.Exports.{plain_of, plain_params, plain_result, export_as, exports_by, exports_among, exports_of}
use Rattle.core_tree.specs.TypedCalls.{ArgumentsFit}
use Rattle.core_tree.specs.TypedItems.{param_types, is_plain_result, ExportTyped, ProcTyped}
use Rattle.core_tree.specs.Valid.{ValidCore}
use Rattle.core_meaning.specs.Values.{Value, Num, Ref}
use Rattle.core_meaning.specs.Areas.{Areas}
use Rattle.core_meaning.specs.State.{State, seen, first_state}
use Rattle.core_meaning.specs.Calls.{Calls, no_procedures}
use Rattle.core_meaning.specs.Run.{procedure_call, with_procedure, entry_result, entry_among, entry}
use Rattle.region_soundness.specs.Fitting.{Entry, ValueFits}
use Rattle.region_soundness.specs.Laws.{RunsAreDefined}
use Rattle.region_soundness.proofs.Lasting.{ValuesFitAll, globals_last, lasting_longer}
use Rattle.region_soundness.proofs.Calls.{Caller, Called, CallsSafe, ImportsSafe}
use Rattle.region_soundness.proofs.Standing.{ResultFits}
use Rattle.core_tree.specs.Environments.{Env, type_of_plain}
use Rattle.core_tree.specs.Syntax.{ExprCore, type_of}
use Rattle.area_types.specs.Tables.{is_stored}
use Rattle.core_tree.specs.TypedItems.{ImportTyped}
use Rattle.core_tree.specs.TypedExpressions.{HasType}
use Rattle.core_meaning.specs.Expressions.{eval}
use Rattle.core_meaning.specs.Imports.{outside}
use Rattle.step_semantics.proofs.Keeping.{keeps_weaker}
use Rattle.region_soundness.proofs.Parts.{Steady, NumberOf, stored_number}
use Rattle.region_soundness.proofs.Forms.{Gave}
use Rattle.region_soundness.proofs.Calls.{value_safe}
use Rattle.region_soundness.proofs.Imports.{PlainFits, plain_result_fits, Replied, outside_safe}
use Rattle.region_soundness.proofs.Inits.{first_value_safe}
use Rattle.core_meaning.specs.State.{first_area}
use Rattle.std.proofs.lemmas.List.{length-map}
use Rattle.region_soundness.proofs.Statements.{InitsSafe}
use Rattle.region_soundness.proofs.Procedures.{procedure_safe, calls_more}
use Rattle.region_soundness.proofs.First.{first_areas_fit, first_globals}

-- ---- numbers from outside

truth_value : (v : ℤ) → IsTrue (int_le (pos 0) v && int_le v (pos 1)) → IsTrue (int_le (pos 0) v && int_lt v (pos 2))
truth_value (pos n) h =
    let b = both (int_le (pos 0) (pos n)) (int_le (pos n) (pos 1)) h in
    let small = is_at_most n 1 b.1 in
    and_from (int_le (pos 0) (pos n)) (int_lt (pos n) (pos 2)) b.0 (lt-ltb n 2 (omega (arith, small)))
truth_value (negsuc n) h = let no : ⊥ = cc in absurd no

plain_value : (table : Table) (t : ValueType) (p : Plain) (v : ℤ) → plain_of t ≡ Some p → IsTrue (plain_fits p v) → IsTrue (is_value table t v)
plain_value table types.Truth p v e h = (let same : plain.Truth ≡ p = cc in truth_value v (subst (λ q. IsTrue (plain_fits q v)) (sym same) h))
plain_value table (types.Int kind) p v e h = (let same : plain.Int kind ≡ p = cc in subst (λ q. IsTrue (plain_fits q v)) (sym same) h)
plain_value table (types.Ix n) p v e h = let no : ⊥ = cc in absurd no
plain_value table (types.Bits n) p v e h = let no : ⊥ = cc in absurd no
plain_value table (types.Ref c r a) p v e h = let no : ⊥ = cc in absurd no

plain_itself : (t : ValueType) (p : Plain) → plain_of t ≡ Some p → Fits (applied (λ j. Global) t) t
plain_itself types.Truth p e = refl
plain_itself (types.Int kind) p e = refl
plain_itself (types.Ix n) p e = refl
plain_itself (types.Bits n) p e = refl
plain_itself (types.Ref c r a) p e = let no : ⊥ = cc in absurd no

-- the values of an entry call are arguments that fit
pub record Given (core : ModuleCore) (entry : Entry) (areas : Areas) (types : List ValueType) (values : List ℤ) : Type 0 where
  pub fit : ArgumentsFit (λ j. Global) types types
  pub fits : ValuesFitAll core entry areas types (map Num values)

-- the first parameter of an export, and the others
record Parted (o : Option Plain) (r : Option (List Plain)) (ts : List Plain) : Type 0 where
  head : Plain
  tail : List Plain
  head_is : o ≡ Some head
  tail_is : r ≡ Some tail
  is : ts ≡ head ∷ tail

parted : (o : Option Plain) (r : Option (List Plain)) (ts : List Plain) → option_and_then (λ t. option_map (λ ts. t ∷ ts) r) o ≡ Some ts → Parted o r ts
parted None r ts e = let no : ⊥ = cc in absurd no
parted (Some t) None ts e = let no : ⊥ = cc in absurd no
parted (Some t) (Some us) ts e = let same : t ∷ us ≡ ts = cc in record { head = t; tail = us; head_is = refl; tail_is = refl; is = sym same }

module _ (core : ModuleCore) (entry : Entry) (areas : Areas) where
  given_none : (ts : List Plain) (values : List ℤ) → [] ≡ ts → IsTrue (values_fit ts values) → Given core entry areas [] values
  given_none [] [] e h = record { fit = tt; fits = tt }
  given_none [] (v ∷ vs) e h = let no : ⊥ = cc in absurd no
  given_none (t ∷ ts) values e h = let no : ⊥ = cc in absurd no

  given_more : (p : ParamCore) (ps : List ParamCore) (t : Plain) (ts : List Plain) → plain_of p.ty ≡ Some t → ((vs : List ℤ) → IsTrue (values_fit ts vs) → Given core entry areas (map (λ (p : ParamCore). p.ty) ps) vs)
      → (values : List ℤ) → IsTrue (values_fit (t ∷ ts) values) → Given core entry areas (map (λ (p : ParamCore). p.ty) (p ∷ ps)) values
  given_more p ps t ts e rest [] h = let no : ⊥ = cc in absurd no
  given_more p ps t ts e rest (v ∷ vs) h =
      let b = both (plain_fits t v) (values_fit ts vs) h in
      let g = rest vs b.1 in
      record { fit = (plain_itself p.ty t e, g.fit); fits = (plain_value core.structs p.ty t v e b.0, g.fits) }

  given_values : (ps : List ParamCore) (ts : List Plain) (values : List ℤ) → plain_params ps ≡ Some ts → IsTrue (values_fit ts values) → Given core entry areas (map (λ (p : ParamCore). p.ty) ps) values
  given_values [] ts values e h = given_none ts values (let same : [] ≡ ts = cc in same) h
  given_values (p ∷ ps) ts values e h =
      let d = parted (plain_of p.ty) (plain_params ps) ts e in
      given_more p ps d.head d.tail d.head_is (λ vs g. given_values ps d.tail vs d.tail_is g) values (subst (λ xs. IsTrue (values_fit xs values)) d.is h)

-- ---- exports

type_plain : (t : ValueType) → IsTrue (is_plain t) → (p : Plain) × (plain_of t ≡ Some p)
type_plain types.Truth h = (plain.Truth, refl)
type_plain (types.Int kind) h = (plain.Int kind, refl)
type_plain (types.Ix n) h = let no : ⊥ = cc in absurd no
type_plain (types.Bits n) h = let no : ⊥ = cc in absurd no
type_plain (types.Ref c r a) h = let no : ⊥ = cc in absurd no

params_plain : (ps : List ParamCore) → All (λ t. IsTrue (is_plain t)) (map (λ (p : ParamCore). p.ty) ps) → (ts : List Plain) × (plain_params ps ≡ Some ts)
params_plain [] h = ([], refl)
params_plain (p ∷ ps) h =
    let t = type_plain p.ty (All-head (λ t. IsTrue (is_plain t)) p.ty (map (λ (p : ParamCore). p.ty) ps) h) in
    let ts = params_plain ps (All-tail (λ t. IsTrue (is_plain t)) p.ty (map (λ (p : ParamCore). p.ty) ps) h) in
    (t.0 ∷ ts.0, ap (λ o. option_and_then (λ t. option_map (λ ts. t ∷ ts) (plain_params ps)) o) t.1 ∙ ap (option_map (λ ts. t.0 ∷ ts)) ts.1)

result_plain : (r : Option ValueType) → IsTrue (is_plain_result r) → (x : Option Plain) × (plain_result r ≡ Some x)
result_plain None h = (None, refl)
result_plain (Some t) h = let p = type_plain t h in (Some p.0, ap (option_map Some) p.1)

-- an exported procedure as the outside sees it
record SeenAs (p : ProcCore) : Type 0 where
  params : List Plain
  params_are : plain_params p.params ≡ Some params
  result : Option Plain
  is : exports_by p.exported p ≡ record { name = p.name; params = params; result = result } ∷ []

seen_as : (p : ProcCore) → p.exported ≡ true → ExportTyped p → SeenAs p
seen_as p e t =
    let ts = params_plain p.params t.params in
    let r = result_plain p.result t.result in
    record {
      params = ts.0;
      params_are = ts.1;
      result = r.0;
      is = ap (λ b. exports_by b p) e ∙ ap (λ o. export_as p.name o (plain_result p.result)) ts.1 ∙ ap (export_as p.name (Some ts.0)) r.1;
    }

abbrev Found : Name → List ℤ → List Export → Type 0
Found name values exports = IsTrue (found_fits (export_of name exports) values)

-- where the name is that of the first procedure, the values are its arguments
found_here : (p : ProcCore) (rest : List Export) (name : Name) (values : List ℤ) → (x : SeenAs p) → same_word p.name name ≡ true → Found name values (exports_by p.exported p ++ rest) → IsTrue (values_fit x.params values)
found_here p rest name values x e h =
    let first : Export = record { name = p.name; params = x.params; result = x.result } in
    subst (λ b. IsTrue (found_fits (if b then Some first else export_of name rest) values)) e (subst (λ xs. Found name values (xs ++ rest)) x.is h)

found_later : (p : ProcCore) (rest : List Export) (name : Name) (values : List ℤ) → (IsTrue p.exported → ExportTyped p) → p.exported && same_word p.name name ≡ false → Found name values (exports_by p.exported p ++ rest) → Found name values rest
found_later p rest name values typed no_match h = go p.exported refl
  where
    go : (b : Bool) → p.exported ≡ b → Found name values rest
    go false e = subst (λ b. Found name values (exports_by b p ++ rest)) e h
    go true e =
        let x = seen_as p e (typed e) in
        let first : Export = record { name = p.name; params = x.params; result = x.result } in
        let other : same_word p.name name ≡ false = ap (λ b. b && same_word p.name name) (sym e) ∙ no_match in
        subst (λ b. IsTrue (found_fits (if b then Some first else export_of name rest) values)) other (subst (λ xs. Found name values (xs ++ rest)) x.is h)

-- ---- entry calls

pub next_there : {A : Type 0} (xs ys : List A) (x : A) → slice_get (xs ++ x ∷ ys) (length xs) ≡ Some x
next_there [] ys x = refl
next_there (a ∷ xs) ys x = next_there xs ys x

pub taken_front : {A : Type 0} (xs ys : List A) → take (length xs) (xs ++ ys) ≡ xs
taken_front [] [] = refl
taken_front [] (y ∷ ys) = refl
taken_front (x ∷ xs) ys = ap (λ l. x ∷ l) (taken_front xs ys)

by_test : {A : Type 0} (post : A → State → Type 0) (b : Bool) (first second : Part State A) (n : ℕ) (w : World) (s : State) → (b ≡ true → Safe post (first n w s)) → (b ≡ false → Safe post (second n w s)) → Safe post ((if b then first else second) n w s)
by_test post true first second n w s h g = h refl
by_test post false first second n w s h g = g refl

-- the outside's own call, without arguments
outermost : Entry
outermost = record { params = []; args = []; first = 0 }

module _ (core : ModuleCore) (valid : ValidCore core) (imports_safe : ImportsSafe core) (inits_safe : (env : Env) → ValidCore env.core → env.outcome ≡ None → (entry : Entry) → InitsSafe env entry) (name : Name) (values : List ℤ) where
  called_on : (s : State) → Caller core s → (wanted : Option ValueType) (result : Option Value) (u : State) → Called core outermost s wanted result u → Caller core u
  called_on s caller wanted result u c = record {
    areas = c.areas;
    globals = globals_last core s.areas u.areas c.lasts.areas caller.globals;
    room = omega (arith, caller.room, lasting_longer s.areas u.areas c.lasts.areas);
  }

  outcome_safe : (r : Option ValueType) → IsTrue (is_plain_result r) → (areas : Areas) (u : State) → Caller core u → (result : Option Value) → ResultFits core outermost areas (option_map (applied (λ j. Global)) r) result
      → (n : ℕ) (w : World) → Safe (λ a v. Caller core v) (entry_result core result n w u)
  outcome_safe r h areas u c None fits n w = c
  outcome_safe r h areas u c (Some (Num v)) fits n w = c
  outcome_safe None h areas u c (Some (Ref k path)) fits n w = absurd fits
  outcome_safe (Some types.Truth) h areas u c (Some (Ref k path)) fits n w = absurd fits
  outcome_safe (Some (types.Int kind)) h areas u c (Some (Ref k path)) fits n w = absurd fits
  outcome_safe (Some (types.Ix m)) h areas u c (Some (Ref k path)) fits n w = absurd fits
  outcome_safe (Some (types.Bits m)) h areas u c (Some (Ref k path)) fits n w = absurd fits
  outcome_safe (Some (types.Ref d r a)) h areas u c (Some (Ref k path)) fits n w = let no : ⊥ = cc in absurd no

  entered_safe : (earlier : List ProcCore) (calls : Calls) → CallsSafe core earlier calls → (p : ProcCore) → ProcTyped core earlier p → p.exported ≡ true → (x : SeenAs p) → IsTrue (values_fit x.params values) → (s : State) → Caller core s
      → (n : ℕ) (w : World) → Safe (λ a u. Caller core u) (bind (procedure_call core calls p (map Num values)) (entry_result core) n w s)
  entered_safe earlier calls safe p t exported x fit s caller n w =
      let g = given_values core outermost s.areas p.params x.params values x.params_are fit in
      let post : Option Value → State → Type 0 = Called core outermost s (option_map (applied (λ j. Global)) p.result) in
      keeps_after HasMeaning post (λ a u. Caller core u) (procedure_call core calls p (map Num values) n w s) (entry_result core)
      (procedure_safe core valid imports_safe inits_safe earlier calls safe p t outermost s caller (λ j. Global) (param_types p) g.fit (map Num values) g.fits n w)
      (λ result u c m z. outcome_safe p.result (t.exported exported).result u.areas u (called_on s caller (option_map (applied (λ j. Global)) p.result) result u c) result c.fits m z)

  entry_safe : (procs earlier : List ProcCore) (calls : Calls) (number : ℕ) → core.procs ≡ earlier ++ procs → CallsSafe core earlier calls → number ≡ length earlier → Found name values (exports_among procs) → (s : State) → Caller core s
      → (n : ℕ) (w : World) → Safe (λ a u. Caller core u) (entry_among core calls number procs name values n w s)
  entry_safe [] earlier calls number are safe is h s caller n w = let no : ⊥ = cc in absurd no
  entry_safe (p ∷ procs) earlier calls number are safe is h s caller n w =
      let there : slice_get core.procs (length earlier) ≡ Some p = ap (λ ps. slice_get ps (length earlier)) are ∙ next_there earlier procs p in
      let before : take (length earlier) core.procs ≡ earlier = ap (take (length earlier)) are ∙ taken_front earlier (p ∷ procs) in
      let t : ProcTyped core earlier p = subst (λ ps. ProcTyped core ps p) before (valid.procs (length earlier) p there) in
      by_test (λ a u. Caller core u) (p.exported && same_word p.name name) (bind (procedure_call core calls p (map Num values)) (entry_result core)) (entry_among core (with_procedure core calls number p) (suc number) procs name values) n w s
      (λ e. let b = both p.exported (same_word p.name name) e in let x = seen_as p b.0 (t.exported b.0) in entered_safe earlier calls safe p t b.0 x (found_here p (exports_among procs) name values x b.1 h) s caller n w)
      (λ e. entry_safe procs (earlier ++ p ∷ []) (with_procedure core calls number p) (suc number) (are ∙ sym (append_assoc earlier (p ∷ []) procs))
      (subst (λ k. CallsSafe core (earlier ++ p ∷ []) (with_procedure core calls k p)) (sym is) (calls_more core valid imports_safe inits_safe earlier calls safe p t)) (omega (arith, is, length-append earlier (p ∷ [])))
      (found_later p (exports_among procs) name values t.exported e h) s caller n w)

-- ---- runs

first_caller : (core : ModuleCore) → ValidCore core → Caller core (first_state core)
first_caller core valid = record { areas = first_areas_fit core valid; globals = first_globals core; room = omega (arith, length-map core.areas (first_area core)) }

-- ---- imports and first values of areas, as statements need them

all_at : {A : Type 0} (P : A → Type 0) (xs : List A) (k : ℕ) (x : A) → All P xs → slice_get xs k ≡ Some x → P x
all_at P [] k x h e = let no : ⊥ = cc in absurd no
all_at P (y ∷ xs) zero x h e = let same : y ≡ x = cc in subst P same (All-head P y xs h)
all_at P (y ∷ xs) (suc k) x h e = all_at P xs k x (All-tail P y xs h) e

reply_fits : (core : ModuleCore) (entry : Entry) (areas : Areas) (r : Option Plain) (v : Option Value) → PlainFits core.structs r v → ResultFits core entry areas (option_map type_of_plain r) v
reply_fits core entry areas None None h = tt
reply_fits core entry areas None (Some v) h = h
reply_fits core entry areas (Some t) None h = h
reply_fits core entry areas (Some t) (Some v) h = plain_result_fits core entry areas t v h

pub imports_safe : (core : ModuleCore) → ValidCore core → ImportsSafe core
imports_safe core valid k i e entry s caller regions given fit args fits n w =
    keeps_weaker HasMeaning (Replied core i s) (Called core entry s (option_map type_of_plain i.result)) (outside core i args n w s)
    (λ result u r. record {
      lasts = record { areas = r.lasting; first = ap (λ f. f.own.first) r.frames; callers = ap (λ f. f.callers) r.frames };
      names = ap (λ f. f.own.names) r.frames;
      areas = r.areas;
      fits = reply_fits core entry u.areas i.result result r.fits;
    })
    (outside_safe core i (all_at (ImportTyped core) core.imports k i valid.imports e) entry s caller.areas regions given args fit fits n w)

pub inits_safe : (env : Env) → ValidCore env.core → env.outcome ≡ None → (entry : Entry) → InitsSafe env entry
inits_safe env valid none entry at s known area is init typed n w = first_value_safe env valid at s numbers area is init typed n w
  where
    numbers : (e : ExprCore) (t : ValueType) → HasType env at.scope e t → IsTrue (is_stored (length env.core.structs.words) t) → (n : ℕ) (w : World) → Safe (Steady s (NumberOf env.core.structs t)) (eval env.core None e n w s)
    numbers e t h stored n w =
        keeps_weaker HasMeaning (Gave env.core entry s (type_of e)) (Steady s (NumberOf env.core.structs t)) (eval env.core None e n w s)
        (λ x u g. (g.same, stored_number env.core entry s.areas t x stored (subst (λ ty. ValueFits env.core entry s.areas ty x) h.type g.fits)))
        (value_safe env valid entry s at.scope known none e h.typed n w)

pub runs_are_defined : RunsAreDefined
runs_are_defined core valid script fits =
    run_never_undefined (Caller core) (exports_of core) (entry core)
    (λ call fit n w s caller. entry_safe core valid (imports_safe core valid) inits_safe call.name call.values core.procs [] (no_procedures core) 0 refl (λ k p e. let no : ⊥ = cc in absurd no) refl fit s caller n w)
    (seen core) (first_state core) (first_caller core valid) script fits
