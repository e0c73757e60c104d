-- What an expression of a valid core is given, apart from its steps, fits its type; and what follows of values that fit.
use Rattle.std.specs.Prelude.{◌≡◌, ℕ, Bool, false, List, map, Contains, Option, None, All, IsTrue}
use Rattle.area_types.specs.Syntax as types
use Rattle.area_types.specs.Syntax.{ValueType, Area}
use Rattle.area_types.specs.Tables.{written_out}
use Rattle.area_types.specs.declared.region.Region.{Region}
use Rattle.region_check.specs.Calls.{Reference, reference_of}
use Rattle.region_check.specs.Substitutions.{applied}
use Rattle.core_tree.specs.Syntax.{ModuleCore, ExprCore, InitCore, type_of}
use Rattle.core_tree.specs.Types.{is_core_area}
use Rattle.core_tree.specs.Environments.{Env, Point}
use Rattle.core_tree.specs.TypedCalls.{ArgumentsFit}
use Rattle.core_tree.specs.TypedExpressions.{ExprTyped}
use Rattle.core_tree.specs.TypedItems.{contract_env}
use Rattle.core_tree.specs.TypedStatements.{MayInit, ReturnTyped}
use Rattle.core_tree.specs.Valid.{ValidCore}
use Rattle.core_meaning.specs.Values.{Value}
use Rattle.core_meaning.specs.Areas.{Held, Areas}
use Rattle.core_meaning.specs.State.{State}
use Rattle.core_meaning.specs.Gives.{Gives, GivesAll, FirstGives}
use Rattle.region_soundness.specs.Fitting.{Entry, Refers, ValueFits}
use Rattle.region_soundness.specs.Scoped.{HeldFits, AreasFit, Activation, Scoped}
use Rattle.value_fitting.specs.Known.{activation, Knows, KnowsOutcome, ValuesFitAll, ResultFits}
use Rattle.value_fitting.specs.Given.{ReturnGives, NumberOf, ReferenceTo, PartFits}

-- ---- what is given

abbrev pub GivenValuesFit : Type 0
GivenValuesFit =
    (env : Env) → ValidCore env.core → (scope : List ℕ) (entry : Entry) (s : State) → Knows env scope entry s → (outcome : Option Value) → KnowsOutcome env entry s.areas outcome
    → (e : ExprCore) → ExprTyped env scope e → (v : Value) → Gives env.core outcome s e v → ValueFits env.core entry s.areas (type_of e) v

-- in a body, where there is no `result`
abbrev pub GivenArgumentsFit : Type 0
GivenArgumentsFit =
    (env : Env) → ValidCore env.core → (scope : List ℕ) (entry : Entry) (s : State) → Knows env scope entry s → env.outcome ≡ None
    → (es : List ExprCore) → All (ExprTyped env scope) es → (vs : List Value) → GivesAll env.core s es vs → ValuesFitAll env.core entry s.areas (map type_of es) vs

-- arguments that fit their types fit the parameters, with the caller's regions for the callee's
abbrev pub ArgumentsFitParameters : Type 0
ArgumentsFitParameters =
    (core : ModuleCore) (entry : Entry) (areas : Areas) (regions : ℕ → Region) (params given : List ValueType) → ArgumentsFit regions params given
    → (vs : List Value) → ValuesFitAll core entry areas given vs → ValuesFitAll core entry areas (map (applied regions) params) vs

abbrev pub GivenFirstValuesFit : Type 0
GivenFirstValuesFit =
    (env : Env) → ValidCore env.core → (at : Point) (entry : Entry) (s : State) → Knows env at.scope entry s → env.outcome ≡ None
    → (area : Area) → IsTrue (is_core_area env.core.structs area) → (init : Option InitCore) → MayInit env at area init
    → (held : Held) → FirstGives env.core s init (written_out env.core.structs area) held → HeldFits env.core.structs (written_out env.core.structs area) held

abbrev pub GivenResultsFit : Type 0
GivenResultsFit =
    (env : Env) → ValidCore env.core → (at : Point) (entry : Entry) (s : State) → Knows env at.scope entry s → env.outcome ≡ None
    → (value : Option ExprCore) → ReturnTyped env at env.result value → (result : Option Value) → ReturnGives env.core s value result → ResultFits env.core entry s.areas env.result result

-- ---- what values that fit are

abbrev pub ReferencesRefer : Type 0
ReferencesRefer =
    (core : ModuleCore) (entry : Entry) (areas : Areas) (constant : Bool) (region : Region) (area : Area) (v : Value) → ValueFits core entry areas (types.Ref constant region area) v
    → ReferenceTo core entry areas (record { constant = constant; region = region; area = area }) v

abbrev pub ReferredPartsFit : Type 0
ReferredPartsFit =
    (core : ModuleCore) (entry : Entry) (areas : Areas) → AreasFit core.structs areas → (r : Reference) (number : ℕ) (path : List ℕ) → Refers core entry areas r number path → PartFits core areas r number path

abbrev pub PlainValuesAreNumbers : Type 0
PlainValuesAreNumbers = (core : ModuleCore) (entry : Entry) (areas : Areas) (ty : ValueType) → reference_of ty ≡ None → (v : Value) → ValueFits core entry areas ty v → NumberOf core.structs ty v

-- ---- what is known

-- the own call of a scoped state is one of this procedure
abbrev pub ScopedIsKnown : Type 0
ScopedIsKnown = (env : Env) (scope : List ℕ) (entry : Entry) (waiting : List Activation) (s : State) → Scoped env.core (activation env scope entry) waiting s → Knows env scope entry s

abbrev pub FewerAreKnown : Type 0
FewerAreKnown = (env : Env) (scope fewer : List ℕ) (entry : Entry) (s : State) → ((m : ℕ) → Contains fewer m → Contains scope m) → Knows env scope entry s → Knows env fewer entry s

-- a `requires` or `ensures` knows what a body knows
abbrev pub ContractsKnow : Type 0
ContractsKnow = (env : Env) (before : Bool) (scope : List ℕ) (entry : Entry) (s : State) → Knows env scope entry s → Knows (contract_env env before) scope entry s

-- a result that fits may be named in an `ensures`
abbrev pub ResultsAreKnown : Type 0
ResultsAreKnown = (env : Env) (entry : Entry) (areas : Areas) (result : Option Value) → ResultFits env.core entry areas env.result result → KnowsOutcome (contract_env env false) entry areas result

-- in a body and in a `requires` there is none
abbrev pub NoResultIsKnown : Type 0
NoResultIsKnown = (env : Env) (entry : Entry) (areas : Areas) → env.outcome ≡ None → KnowsOutcome env entry areas None
