-- What is known of a state where an expression stands.
use Rattle.std.proofs.Common.{◌≡◌, ℕ, List, Option, Some}
use Rattle.area_types.specs.Syntax.{ValueType}
use Rattle.core_tree.specs.Syntax.{ModuleCore}
use Rattle.core_tree.specs.Environments.{Env}
use Rattle.core_meaning.specs.Values.{Value}
use Rattle.core_meaning.specs.Areas.{Areas}
use Rattle.core_meaning.specs.State.{State}
use Rattle.region_soundness.specs.Fitting.{Entry, ValueFits}
use Rattle.region_soundness.specs.Scoped.{AreasFit, GlobalsFirst, Activation, NamesFit}

abbrev pub activation : Env → (scope : List ℕ) → Entry → Activation
activation env scope entry = record { locals = env.locals; scope = scope; entry = entry }

-- the state, with these locals in scope
pub record Knows (env : Env) (scope : List ℕ) (entry : Entry) (s : State) : Type 0 where
  pub areas : AreasFit env.core.structs s.areas
  pub globals : GlobalsFirst env.core s.areas
  pub names : NamesFit env.core s.areas (activation env scope entry) s.frames.own.names

-- the procedure's result, where it may be named
pub record OutcomeFits (core : ModuleCore) (entry : Entry) (areas : Areas) (outcome : Option Value) (ty : ValueType) : Type 0 where
  pub value : Value
  pub has : outcome ≡ Some value
  pub fits : ValueFits core entry areas ty value

abbrev pub KnowsOutcome : Env → Entry → Areas → Option Value → Type 0
KnowsOutcome env entry areas outcome = (ty : ValueType) → env.outcome ≡ Some ty → OutcomeFits env.core entry areas outcome ty
