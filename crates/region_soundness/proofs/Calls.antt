-- Calls: arguments that fit, and what a call leaves.
use Rattle.std.proofs.Common.{◌≡◌, ℕ, ◌≤◌, Bool, true, false, List, [], ◌∷◌, map, length, Option, Some, None, All, refl, sym, ◌∙◌, ap, subst}
use Rattle.std.specs.Prelude.{slice_get, if◌then◌else◌}
use Rattle.std.specs.Option.{option_map}
use Rattle.std.proofs.lemmas.List.Elements.{All-head, All-tail}
use Rattle.step_semantics.specs.Steps.{World, give, bind, tick}
use Rattle.step_semantics.specs.Safe.{HasMeaning, Safe}
use Rattle.step_semantics.proofs.Keeping.{keeps_after, keeps_tick}
use Rattle.run_records.specs.declared.Plain.{Plain}
use Rattle.run_records.specs.declared.Plain.TheVariants as plain
use Rattle.area_types.specs.Syntax.{ValueType}
use Rattle.area_types.specs.declared.region.Region.{Region}
use Rattle.region_check.specs.Substitutions.{applied}
use Rattle.core_tree.specs.Syntax.{ModuleCore, ExprCore, CallCore, ProcCore, ImportCore, type_of}
use Rattle.core_tree.specs.Environments.{Env, Header, header_of, type_of_plain}
use Rattle.core_tree.specs.TypedExpressions.{ExprTyped}
use Rattle.core_tree.specs.TypedCalls.{ArgumentsFit, CallTyped}
use Rattle.core_tree.specs.TypedItems.{param_types}
use Rattle.core_tree.specs.Valid.{ValidCore}
use Rattle.core_meaning.specs.Values.{Value}
use Rattle.core_meaning.specs.State.{State}
use Rattle.core_meaning.specs.Checks.{on_some}
use Rattle.core_meaning.specs.Expressions.{eval, eval_all}
use Rattle.core_meaning.specs.Imports.{outside}
use Rattle.core_meaning.specs.Calls.{Calls, called, call}
use Rattle.region_soundness.specs.Fitting.{Entry}
use Rattle.region_soundness.specs.Scoped.{AreasFit, GlobalsFirst}
use Rattle.region_soundness.proofs.Known.{Knows, KnowsOutcome}
use Rattle.region_soundness.proofs.Lasting.{ValuesFitAll}
use Rattle.region_soundness.proofs.Forms.{Gave, gave_after}
use Rattle.region_soundness.proofs.Expressions.{eval_safe}
use Rattle.region_soundness.proofs.Standing.{Lasts, ResultFits}

-- a state in which a call may be made
pub record Caller (core : ModuleCore) (s : State) : Type 0 where
  pub areas : AreasFit core.structs s.areas
  pub globals : GlobalsFirst core s.areas
  pub room : length core.areas ≤ length s.areas

-- what a call leaves: its caller's names, areas that last, and a result of this type
pub record Called (core : ModuleCore) (entry : Entry) (s : State) (wanted : Option ValueType) (result : Option Value) (u : State) : Type 0 where
  pub lasts : Lasts s u
  pub names : u.frames.own.names ≡ s.frames.own.names
  pub areas : AreasFit core.structs u.areas
  pub fits : ResultFits core entry u.areas wanted result

-- the arguments fit, and nothing has changed
pub record AllGave (core : ModuleCore) (entry : Entry) (s : State) (types : List ValueType) (vs : List Value) (u : State) : Type 0 where
  pub same : u ≡ s
  pub fits : ValuesFitAll core entry s.areas types vs

-- each procedure has a meaning wherever its arguments fit
abbrev pub CallsSafe : ModuleCore → List ProcCore → Calls → Type 0
CallsSafe core procs calls = (k : ℕ) (p : ProcCore) → slice_get procs k ≡ Some p → (entry : Entry) (s : State) → Caller core s → (regions : ℕ → Region) (given : List ValueType) → ArgumentsFit regions (param_types p) given
    → (args : List Value) → ValuesFitAll core entry s.areas given args → (n : ℕ) (w : World) → Safe (Called core entry s (option_map (applied regions) p.result)) (calls k args n w s)

abbrev pub ImportsSafe : ModuleCore → Type 0
ImportsSafe core = (k : ℕ) (i : ImportCore) → slice_get core.imports k ≡ Some i → (entry : Entry) (s : State) → Caller core s → (regions : ℕ → Region) (given : List ValueType) → ArgumentsFit regions i.params given
    → (args : List Value) → ValuesFitAll core entry s.areas given args → (n : ℕ) (w : World) → Safe (Called core entry s (option_map type_of_plain i.result)) (outside core i args n w s)

module _ (env : Env) (valid : ValidCore env.core) (entry : Entry) (s : State) (scope : List ℕ) (known : Knows env scope entry s) (none : env.outcome ≡ None) where
  no_outcome : KnowsOutcome env entry s.areas None
  no_outcome ty e = let no : ⊥ = cc in absurd no

  pub value_safe : (e : ExprCore) → ExprTyped env scope e → (n : ℕ) (w : World) → Safe (Gave env.core entry s (type_of e)) (eval env.core None e n w s)
  value_safe e typed n w = eval_safe env valid entry s scope known None no_outcome e typed n w

  pub eval_all_safe : (es : List ExprCore) → All (ExprTyped env scope) es → (n : ℕ) (w : World) → Safe (AllGave env.core entry s (map type_of es)) (eval_all env.core es n w s)
  eval_all_safe [] typed n w = record { same = refl; fits = tt }
  eval_all_safe (e ∷ es) typed n w =
      let post : List Value → State → Type 0 = AllGave env.core entry s (map type_of (e ∷ es)) in
      gave_after env.core entry s post (type_of e) (eval env.core None e n w s) (λ v. bind (eval_all env.core es) (λ vs. give (v ∷ vs))) (value_safe e (All-head (ExprTyped env scope) e es typed) n w)
      (λ v fits m z. keeps_after HasMeaning (AllGave env.core entry s (map type_of es)) post (eval_all env.core es m z s) (λ vs. give (v ∷ vs)) (eval_all_safe es (All-tail (ExprTyped env scope) e es typed) m z)
      (λ vs u g j q. record { same = g.same; fits = (fits, g.fits) }))

module _ (env : Env) (valid : ValidCore env.core) (calls : Calls) (calls_safe : CallsSafe env.core env.earlier calls) (imports_safe : ImportsSafe env.core) (entry : Entry) (s : State) (caller : Caller env.core s) where
  plain_applied : (regions : ℕ → Region) (t : Plain) → applied regions (type_of_plain t) ≡ type_of_plain t
  plain_applied regions plain.Truth = refl
  plain_applied regions (plain.Int kind) = refl

  result_applied : (regions : ℕ → Region) (r : Option Plain) → option_map (applied regions) (option_map type_of_plain r) ≡ option_map type_of_plain r
  result_applied regions None = refl
  result_applied regions (Some t) = ap Some (plain_applied regions t)

  -- the header of an import, and that of a procedure
  import_called : (c : CallCore) (header : Header) (regions : ℕ → Region) (given : List ValueType) (args : List Value) (o : Option ImportCore) → slice_get env.core.imports c.callee ≡ o
      → option_map (λ (i : ImportCore). record { params = i.params; result = option_map type_of_plain i.result }) o ≡ Some header → ArgumentsFit regions header.params given → ValuesFitAll env.core entry s.areas given args
      → (n : ℕ) (w : World) → Safe (Called env.core entry s (option_map (applied regions) header.result)) (on_some env.core o (λ i. outside env.core i args) n w s)
  import_called c header regions given args None e h fit fits n w = let no : ⊥ = cc in absurd no
  import_called c header regions given args (Some i) e h fit fits n w =
      let same : record { params = i.params; result = option_map type_of_plain i.result } ≡ header = cc in
      subst (λ (x : Header). ArgumentsFit regions x.params given → Safe (Called env.core entry s (option_map (applied regions) x.result)) (outside env.core i args n w s)) same
      (λ fit. subst (λ r. Safe (Called env.core entry s r) (outside env.core i args n w s)) (sym (result_applied regions i.result)) (imports_safe c.callee i e entry s caller regions given fit args fits n w)) fit

  proc_called : (c : CallCore) (header : Header) (regions : ℕ → Region) (given : List ValueType) (args : List Value) (o : Option ProcCore) → slice_get env.earlier c.callee ≡ o
      → option_map (λ (p : ProcCore). record { params = param_types p; result = p.result }) o ≡ Some header → ArgumentsFit regions header.params given → ValuesFitAll env.core entry s.areas given args
      → (n : ℕ) (w : World) → Safe (Called env.core entry s (option_map (applied regions) header.result)) (tick (calls c.callee args) n w s)
  proc_called c header regions given args None e h fit fits n w = let no : ⊥ = cc in absurd no
  proc_called c header regions given args (Some p) e h fit fits n w =
      let same : record { params = param_types p; result = p.result } ≡ header = cc in
      subst (λ (x : Header). ArgumentsFit regions x.params given → Safe (Called env.core entry s (option_map (applied regions) x.result)) (tick (calls c.callee args) n w s)) same
      (λ fit. keeps_tick HasMeaning (Called env.core entry s (option_map (applied regions) p.result)) (calls c.callee args) n w s (λ m. calls_safe c.callee p e entry s caller regions given fit args fits m w)) fit

  either_called : (c : CallCore) (header : Header) (regions : ℕ → Region) (given : List ValueType) (args : List Value) → header_of env c ≡ Some header → ArgumentsFit regions header.params given → ValuesFitAll env.core entry s.areas given args
      → (n : ℕ) (w : World) → Safe (Called env.core entry s (option_map (applied regions) header.result)) (called env.core calls c args n w s)
  either_called c header regions given args is fit fits n w = go c.import refl
    where
      go : (b : Bool) → c.import ≡ b → Safe (Called env.core entry s (option_map (applied regions) header.result)) (called env.core calls c args n w s)
      go true e =
          subst (λ b. Safe (Called env.core entry s (option_map (applied regions) header.result)) ((if b then on_some env.core (slice_get env.core.imports c.callee) (λ i. outside env.core i args) else tick (calls c.callee args)) n w s)) (sym e)
          (import_called c header regions given args (slice_get env.core.imports c.callee) refl (ap (λ b. if b then option_map (λ (i : ImportCore). record { params = i.params; result = option_map type_of_plain i.result }) (slice_get env.core.imports c.callee) else option_map (λ (p : ProcCore). record { params = param_types p; result = p.result }) (slice_get env.earlier c.callee)) (sym e) ∙ is) fit fits n w)
      go false e =
          subst (λ b. Safe (Called env.core entry s (option_map (applied regions) header.result)) ((if b then on_some env.core (slice_get env.core.imports c.callee) (λ i. outside env.core i args) else tick (calls c.callee args)) n w s)) (sym e)
          (proc_called c header regions given args (slice_get env.earlier c.callee) refl (ap (λ b. if b then option_map (λ (i : ImportCore). record { params = i.params; result = option_map type_of_plain i.result }) (slice_get env.core.imports c.callee) else option_map (λ (p : ProcCore). record { params = param_types p; result = p.result }) (slice_get env.earlier c.callee)) (sym e) ∙ is) fit fits n w)

  pub call_safe : (scope : List ℕ) → Knows env scope entry s → env.outcome ≡ None → (c : CallCore) (t : CallTyped env scope c) → (n : ℕ) (w : World) → Safe (Called env.core entry s (option_map (applied t.regions) t.header.result)) (call env.core calls c n w s)
  call_safe scope known none c t n w =
      let post : Option Value → State → Type 0 = Called env.core entry s (option_map (applied t.regions) t.header.result) in
      keeps_after HasMeaning (AllGave env.core entry s (map type_of c.args)) post (eval_all env.core c.args n w s) (called env.core calls c) (eval_all_safe env valid entry s scope known none c.args t.args n w)
      (λ vs u g m z. subst (λ v. Safe post (called env.core calls c vs m z v)) (sym g.same) (either_called c t.header t.regions (map type_of c.args) vs t.callee t.fit g.fits m z))
