-- What a procedure ensures is tested alike on both sides, where it returns and where it falls off its end.
use Rattle.std.proofs.Common.{Contains, ◌≡◌, ℕ, ◌≤◌, Bool, true, false, List, [], ◌∷◌, ◌++◌, length, Option, Some, refl, ap}
use Rattle.std.specs.Prelude.{not, if◌then◌else◌, All, cond}
use Rattle.std.specs.List.{filter, flat_map}
use Rattle.std.proofs.lemmas.List.Elements.{All-nil, All-cons}
use Rattle.step_semantics.specs.Control.{Control}
use Rattle.step_semantics.specs.Follows.{Follows}
use Rattle.step_semantics.specs.Steps.{World, Part, bind}
use Rattle.area_types.specs.Syntax.{ValueType, Truth}
use Rattle.core_tree.specs.Checks.{expr_checks, contract_checks, stmts_checks}
use Rattle.core_tree.specs.Environments.{Env}
use Rattle.core_tree.specs.Syntax.{ContractCore}
use Rattle.core_tree.specs.TypedExpressions.{HasType}
use Rattle.core_tree.specs.TypedItems.{below, contract_env, ContractTyped}
use Rattle.core_meaning.specs.Conditions.{tested_all, ensures_of, requires_of}
use Rattle.core_meaning.specs.Conditions as source
use Rattle.core_meaning.specs.State.{State}
use Rattle.core_meaning.specs.Values.{Value}
use Rattle.c_ast.specs.Syntax.{Expr, Place, Stmt, At}
use Rattle.c_meaning.specs.State.{CState}
use Rattle.c_meaning.specs.Values.{CValue}
use Rattle.area_objects.specs.Both.{Map}
use Rattle.region_soundness.specs.Fitting.{Entry}
use Rattle.region_soundness.specs.Laws.{inside}
use Rattle.region_soundness.specs.Scoped.{Activation, Scoped}
use Rattle.region_soundness.proofs.Conditions.{kept_typed, requires_typed, ensures_typed}
use Rattle.value_fitting.specs.Known.{Knows, ResultFits}
use Rattle.value_fitting.proofs.States.{scoped_is_known, fewer_are_known, contracts_know, results_are_known}
use Rattle.value_fitting.proofs.Expressions.{given_values_fit}
use Rattle.lower_statements.specs.Conditions.{contract_tests, selected}
use Rattle.lower_values.specs.Expressions as lowered
use Rattle.value_refinement.specs.Kept.{Kept}
use Rattle.value_refinement.specs.Laws.{Numbered, Stage, running}
use Rattle.value_refinement.specs.Related.{PointerIs, PlaceIs, NameStands, Related}
use Rattle.value_refinement.specs.Settings.{Setting, Set}
use Rattle.value_refinement.proofs.Given.{first_checks, last_checks}
use Rattle.core_meaning.specs.Values as values
use Rattle.lowered_surroundings.specs.Surroundings.{ensures_setting}
use Rattle.lowered_surroundings.proofs.Staged.{cells_are_plain, indices_have_lengths, result_made}
use Rattle.statement_refinement.proofs.Tests.{contracts_go_on}
use Rattle.body_refinement.specs.Bodies.{Lowered, env_in, frame_in, within}

-- ---- the contracts of a kind

selected_one : (b : Bool) (c : ContractCore) (cs ds : List ContractCore) → cs ≡ ds → (if b then c ∷ cs else cs) ≡ cond b (c ∷ ds) ds
selected_one true c cs ds e = ap (λ xs. c ∷ xs) e
selected_one false c cs ds e = e

-- the lowering takes those that the meaning takes
pub selected_are : (which : ContractCore → Bool) (cs : List ContractCore) → selected which cs ≡ filter which cs
selected_are which [] = refl
selected_are which (c ∷ cs) = selected_one (which c) c (selected which cs) (filter which cs) (selected_are which cs)

abbrev SmallContract : ContractCore → Type 0
SmallContract c = Numbered (c.check ∷ expr_checks c.cond)

all_small : (cs : List ContractCore) → Numbered (flat_map contract_checks cs) → All SmallContract cs
all_small [] h = All-nil SmallContract
all_small (c ∷ cs) h = All-cons SmallContract c cs (first_checks (contract_checks c) (flat_map contract_checks cs) h) (all_small cs (last_checks (contract_checks c) (flat_map contract_checks cs) h))

module _ (d : Lowered) where
  contracts_typed : All (ContractTyped (env_in d) (below (length d.proc.params))) d.proc.contracts
  contracts_typed = (d.valid.procs d.number d.proc d.is).contracts

  contracts_small : All SmallContract d.proc.contracts
  contracts_small = all_small d.proc.contracts (first_checks (flat_map contract_checks d.proc.contracts) (stmts_checks d.proc.body) d.numbered)

  pub ensured_typed : All (λ c. HasType (contract_env (env_in d) false) (below (length d.proc.params)) c.cond Truth) (ensures_of d.proc)
  ensured_typed = ensures_typed (env_in d) d.valid entry_free d.proc (below (length d.proc.params)) contracts_typed where
    entry_free : Entry
    entry_free = record { params = []; args = []; first = 0 }

  pub required_typed : All (λ c. HasType (env_in d) (below (length d.proc.params)) c.cond Truth) (requires_of d.proc)
  required_typed = requires_typed (env_in d) d.valid (record { params = []; args = []; first = 0 }) d.proc (below (length d.proc.params)) contracts_typed

  pub ensured_small : All SmallContract (ensures_of d.proc)
  ensured_small = kept_typed SmallContract SmallContract (λ c. not c.before) d.proc.contracts (λ c e h. h) contracts_small

  pub required_small : All SmallContract (requires_of d.proc)
  required_small = kept_typed SmallContract SmallContract (λ c. c.before) d.proc.contracts (λ c e h. h) contracts_small

-- ---- what stands around them

-- what places stand for is the same where a result may be named
abbrev pub around : Lowered → (outcome : Expr) → Option Value → ℕ → Setting
around d outcome value n = ensures_setting (within d (below (length d.proc.params))) outcome value n

module _ (d : Lowered) (scope : List ℕ) (outcome : Expr) (value : Option Value) (n : ℕ) (objects : Map) (s : State) (u : CState) where
  abbrev here : Setting
  here = around d outcome value n

  abbrev pointer_around : (c : Bool) (e : Expr) (k : ℕ) (path : List ℕ) → PointerIs (within d scope) objects s.areas u c e k path → PointerIs here objects s.areas u c e k path
  pointer_around c e k path h = record { object = h.object; area = h.area; lives = h.lives; content = h.content; leads = h.leads; is = h.is }

  place_around : (c : Bool) (to : Place) (k : ℕ) (path : List ℕ) → PlaceIs (within d scope) objects s.areas u c to k path → PlaceIs here objects s.areas u c to k path
  place_around c to k path h = record { pointer = pointer_around c (lowered.reference_to to) k path h.pointer; is = h.is; type = h.type }

  pub stands_around : (ty : ValueType) (e : Expr) (to : Place) (v : Value) → NameStands (within d scope) objects s.areas u ty e to v → NameStands here objects s.areas u ty e to v
  stands_around ty e to (values.Num i) h = h
  stands_around ty e to (values.Ref k path) h = place_around _ to k path h

  pub related_around : ((m : ℕ) → Contains (below (length d.proc.params)) m → Contains scope m) → Related (within d scope) objects s u
      → ((ty : ValueType) (v : Value) → d.proc.result ≡ Some ty → value ≡ Some v → NameStands here objects s.areas u ty outcome (At outcome) v) → Related here objects s u
  related_around less related result = record {
    both = related.both;
    own = related.own;
    globals = λ k a e. place_around a.constant (lowered.area_place (frame_in d) k) k [] (related.globals k a e);
    locals = λ x ty v here type has. stands_around ty (lowered.local_value (frame_in d) x) (lowered.local_place (frame_in d) x) v (related.locals x ty v (less x here) type has);
    result = result;
  }

  pub stage_around : ((m : ℕ) → Contains (below (length d.proc.params)) m → Contains scope m) → (entry : Entry) (waiting : List Activation) → Scoped d.core (inside d.proc scope entry) waiting s → ResultFits d.core entry s.areas d.proc.result value → Stage here s
  stage_around less entry waiting scoped fits =
      let env : Env = env_in d in
      let params = below (length d.proc.params) in
      let known : Knows (contract_env env false) params entry s = contracts_know env false params entry s (fewer_are_known env scope params entry s less (scoped_is_known env scope entry waiting s scoped)) in
      let made = result_made d.core.structs d.proc d.proc.result (d.valid.procs d.number d.proc d.is).result in
      record {
        entry = entry;
        fits = λ e v typed gives. given_values_fit (contract_env env false) d.valid params entry s known value (results_are_known env entry s.areas value fits) e typed v gives;
        stored = λ e constant region held typed is. cells_are_plain d.core d.valid d.number d.proc d.is params d.proc.result made e constant region held typed is;
        indexed = λ e typed. indices_have_lengths d.core d.valid d.number d.proc d.is params d.proc.result made e typed;
      }

-- ---- the tests

-- the locals that have values are in `scope`, and the states are related for those of `names`
module _ (d : Lowered) (scope names : List ℕ) (less : (m : ℕ) → Contains (below (length d.proc.params)) m → Contains scope m) (named : (m : ℕ) → Contains (below (length d.proc.params)) m → Contains names m) (outcome : Expr) (value : Option Value) (n : ℕ)
    (set : Set (around d outcome value n)) (entry : Entry) (waiting : List Activation) (objects : Map) (s : State) (u : CState) (scoped : Scoped d.core (inside d.proc scope entry) waiting s) (fits : ResultFits d.core entry s.areas d.proc.result value)
    (related : Related (within d names) objects s u) (result : (ty : ValueType) (v : Value) → d.proc.result ≡ Some ty → value ≡ Some v → NameStands (around d outcome value n) objects s.areas u ty outcome (At outcome) v) where
  pub ensures_go_on : (A : Type 0) (post : A → State → Control (Option CValue) → CState → Type 0) (go : Unit {0} → Part State A) (rest : List Stmt) (x y from : ℕ) → n ≤ from
      → ((v : CState) → Kept (within d names).program from u v → (m : ℕ) (w : World) → Follows d.skip post x y m (go tt m w s) (λ j. running (within d names) rest j w v))
      → (m : ℕ) (w : World) → Follows d.skip post x y m (bind (source.ensured d.core d.proc value) go m w s) (λ j. running (within d names) ((contract_tests (record (frame_in d) { outcome = outcome }) (ensures_of d.proc) from).stmts ++ rest) j w u)
  ensures_go_on A post go rest x y from le next m w =
      contracts_go_on (around d outcome value n) set objects s (stage_around d scope outcome value n objects s u less entry waiting scoped fits) (ensures_of d.proc) (ensured_typed d) (ensured_small d) A post go rest x y from le u
      (related_around d names outcome value n objects s u named related result) next m w
