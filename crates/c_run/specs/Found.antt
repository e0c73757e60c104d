-- What a call and an entry call reach, by the places of functions in their unit.
use Rattle.std.specs.Prelude.{◌≡◌, ◌<◌, ◌+◌, ℕ, ℤ, List, length, map, take, slice_get, Some}
use Rattle.c_ast.specs.Syntax.{Name}
use Rattle.c_ast.specs.View.{function_of}
use Rattle.c_ast.specs.declared.CFunction.{CFunction}
use Rattle.c_meaning.specs.Calls.{troubled, no_functions}
use Rattle.c_meaning.specs.Runs.{function_call, entered, entry_among}
use Rattle.c_meaning.specs.State.{Program}
use Rattle.c_meaning.specs.Values.{CValue, Stuck}
use Rattle.c_run.specs.Calls.{calls_of, weights, load}

-- no function is called by the name
abbrev pub NoneIsCalled : List CFunction → Name → Type 0
NoneIsCalled fs name = (p : Program) (values : List CValue) → calls_of p fs name values ≡ troubled p Stuck

-- the function at a place is, and may call those before it
pub record IsCalledAt (fs : List CFunction) (name : Name) (k : ℕ) : Type 0 where
  pub within : k < length fs
  pub called : (p : Program) (values : List CValue) (f : CFunction) → slice_get fs k ≡ Some f → calls_of p fs name values ≡ function_call p (calls_of p (take k fs)) (function_of f) values

-- the same of the outside
abbrev pub NoneIsEntered : List CFunction → Name → Type 0
NoneIsEntered fs name = (p : Program) (values : List ℤ) → entry_among p (no_functions p) (map function_of fs) name values ≡ troubled p Stuck

pub record IsEnteredAt (fs : List CFunction) (name : Name) (k : ℕ) : Type 0 where
  pub within : k < length fs
  pub entered_by : (p : Program) (values : List ℤ) (f : CFunction) → slice_get fs k ≡ Some f → entry_among p (no_functions p) (map function_of fs) name values ≡ entered p (calls_of p (take k fs)) (function_of f) values

-- ---- the functions themselves

-- f is called, and may call those in `earlier`; both are less than the whole
pub record IsCalled (fs : List CFunction) (name : Name) (earlier : List CFunction) (f : CFunction) : Type 0 where
  pub less : load (map function_of earlier) + weights (function_of f).body < load (map function_of fs)
  pub called : (p : Program) (values : List CValue) → calls_of p fs name values ≡ function_call p (calls_of p earlier) (function_of f) values

pub record IsEntered (fs : List CFunction) (name : Name) (earlier : List CFunction) (f : CFunction) : Type 0 where
  pub entered_by : (p : Program) (values : List ℤ) → entry_among p (no_functions p) (map function_of fs) name values ≡ entered p (calls_of p earlier) (function_of f) values
