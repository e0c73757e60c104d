-- What is known of a state where an expression stands: what its areas hold, and that each name in scope has a value of its type.
use Rattle.std.specs.Prelude.{◌≡◌, ℕ, List, [], ◌∷◌, Option, Some, None}
use Rattle.area_types.specs.Syntax.{ValueType}
use Rattle.core_tree.specs.Syntax.{ModuleCore}
use Rattle.core_tree.specs.Environments.{Env}
use Rattle.core_meaning.specs.Values.{Value}
use Rattle.core_meaning.specs.Areas.{Areas}
use Rattle.core_meaning.specs.State.{State}
use Rattle.region_soundness.specs.Fitting.{Entry, ValueFits}
use Rattle.region_soundness.specs.Scoped.{AreasFit, GlobalsFirst, Activation, NamesFit}

-- an open call of the procedure around which that stands
abbrev pub activation : Env → (scope : List ℕ) → Entry → Activation
activation env scope entry = record { locals = env.locals; scope = scope; entry = entry }

-- the state, with these locals in scope
pub record Knows (env : Env) (scope : List ℕ) (entry : Entry) (s : State) : Type 0 where
  pub areas : AreasFit env.core.structs s.areas
  pub globals : GlobalsFirst env.core s.areas
  pub names : NamesFit env.core s.areas (activation env scope entry) s.frames.own.names

-- the procedure's result, where it may be named
pub record OutcomeFits (core : ModuleCore) (entry : Entry) (areas : Areas) (outcome : Option Value) (ty : ValueType) : Type 0 where
  pub value : Value
  pub has : outcome ≡ Some value
  pub fits : ValueFits core entry areas ty value

abbrev pub KnowsOutcome : Env → Entry → Areas → Option Value → Type 0
KnowsOutcome env entry areas outcome = (ty : ValueType) → env.outcome ≡ Some ty → OutcomeFits env.core entry areas outcome ty

-- ---- rows of values, and results

-- one value for each type, which fits it
abbrev pub ValuesFitAll : ModuleCore → Entry → Areas → List ValueType → List Value → Type 0
ValuesFitAll core entry areas [] [] = Unit {0}
ValuesFitAll core entry areas [] (v ∷ vs) = ⊥
ValuesFitAll core entry areas (t ∷ ts) [] = ⊥
ValuesFitAll core entry areas (t ∷ ts) (v ∷ vs) = ValueFits core entry areas t v × ValuesFitAll core entry areas ts vs

-- a value exactly where a result is wanted, which fits it
abbrev pub ResultFits : ModuleCore → Entry → Areas → Option ValueType → Option Value → Type 0
ResultFits core entry areas None None = Unit {0}
ResultFits core entry areas None (Some v) = ⊥
ResultFits core entry areas (Some t) None = ⊥
ResultFits core entry areas (Some t) (Some v) = ValueFits core entry areas t v
