-- What a call and an entry call reach, by the places of procedures in their module.
use Rattle.std.specs.Prelude.{◌≡◌, ◌<◌, ◌+◌, ℕ, ℤ, List, length, map, take, slice_get, Some}
use Rattle.step_semantics.specs.Steps.{bind}
use Rattle.area_types.specs.Syntax.{Name}
use Rattle.core_tree.specs.Syntax.{ModuleCore}
use Rattle.core_tree.specs.View.{proc_of}
use Rattle.core_tree.specs.declared.CoreProc.{CoreProc}
use Rattle.core_meaning.specs.Calls.{no_procedures}
use Rattle.core_meaning.specs.Checks.{formless}
use Rattle.core_meaning.specs.Run.{procedure_call, entry_among, entry_result}
use Rattle.core_meaning.specs.Values.{Value, Num}
use Rattle.core_run.specs.Calls.{calls_of, weights, load}
use Rattle.core_run.specs.Entries.{entered}

-- no procedure has the number
abbrev pub NoneIsCalled : List CoreProc → ℕ → Type 0
NoneIsCalled ps number = (core : ModuleCore) (args : List Value) → calls_of core ps number args ≡ formless core

-- p is called, and may call those in `earlier`; both are less than the whole
pub record IsCalled (ps : List CoreProc) (number : ℕ) (earlier : List CoreProc) (p : CoreProc) : Type 0 where
  pub less : load (map proc_of earlier) + weights (proc_of p).body < load (map proc_of ps)
  pub called : (core : ModuleCore) (args : List Value) → calls_of core ps number args ≡ procedure_call core (calls_of core earlier) (proc_of p) args

-- the outside calls no procedure by the name
abbrev pub NoneIsEntered : List CoreProc → Name → Type 0
NoneIsEntered ps name = (core : ModuleCore) (values : List ℤ) → entry_among core (no_procedures core) 0 (map proc_of ps) name values ≡ formless core

-- it calls the procedure at a place, which may call those before it
pub record IsEnteredAt (ps : List CoreProc) (name : Name) (k : ℕ) : Type 0 where
  pub within : k < length ps
  pub entered_by : (core : ModuleCore) (values : List ℤ) (p : CoreProc) → slice_get ps k ≡ Some p → entry_among core (no_procedures core) 0 (map proc_of ps) name values ≡ entered core (calls_of core (take k ps)) (proc_of p) values

pub record IsEntered (ps : List CoreProc) (name : Name) (earlier : List CoreProc) (p : CoreProc) : Type 0 where
  pub entered_by : (core : ModuleCore) (values : List ℤ) → entry_among core (no_procedures core) 0 (map proc_of ps) name values ≡ entered core (calls_of core earlier) (proc_of p) values
