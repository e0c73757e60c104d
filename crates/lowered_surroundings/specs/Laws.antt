-- The surroundings that the proofs of expressions ask for stand in every procedure of every lowered module.
use Rattle.std.specs.Prelude.{◌≡◌, ℕ, suc, ◌≤◌, Bool, List, length, slice_get, Option, Some, None}
use Rattle.core_tree.specs.Syntax.{ProcCore, ModuleCore}
use Rattle.core_tree.specs.Valid.{ValidCore}
use Rattle.core_meaning.specs.State.{State}
use Rattle.core_meaning.specs.Values.{Value}
use Rattle.c_ast.specs.declared.Target.{Target}
use Rattle.c_ast.specs.Syntax.{Expr, Read, Var}
use Rattle.c_meaning.specs.Calls.{Calls}
use Rattle.lower_types.specs.Names.{local_name}
use Rattle.region_soundness.specs.Fitting.{Entry}
use Rattle.region_soundness.specs.Laws.{inside}
use Rattle.region_soundness.specs.Scoped.{Activation, Scoped}
use Rattle.value_fitting.specs.Known.{ResultFits}
use Rattle.value_refinement.specs.Laws.{Stage}
use Rattle.value_refinement.specs.Settings.{Set}
use Rattle.lowered_surroundings.specs.Surroundings.{setting_for, ensures_setting}

-- whatever is skipped, on each target, and whatever locals are in scope
abbrev pub ProceduresAreSet : Type 0
ProceduresAreSet =
    (core : ModuleCore) → ValidCore core → (k : ℕ) (p : ProcCore) → slice_get core.procs k ≡ Some p
    → (skip : ℕ → Bool) (t : Target) (functions : Calls) (scope : List ℕ) → Set (setting_for skip core t functions k p scope)

-- each state that is scoped for an open call of the procedure
abbrev pub ScopedStatesAreStaged : Type 0
ScopedStatesAreStaged =
    (core : ModuleCore) → ValidCore core → (k : ℕ) (p : ProcCore) → slice_get core.procs k ≡ Some p
    → (skip : ℕ → Bool) (t : Target) (functions : Calls) (scope : List ℕ) (entry : Entry) (waiting : List Activation) (s : State)
    → Scoped core (inside p scope entry) waiting s → Stage (setting_for skip core t functions k p scope) s

-- ---- what is ensured

-- a result is named by a temporary, behind which the tests have theirs
abbrev pub EnsuresAreSet : Type 0
EnsuresAreSet =
    (core : ModuleCore) → ValidCore core → (k : ℕ) (p : ProcCore) → slice_get core.procs k ≡ Some p
    → (skip : ℕ → Bool) (t : Target) (functions : Calls) (scope : List ℕ) (value : Option Value) (n : ℕ) → length p.locals ≤ n
    → Set (ensures_setting (setting_for skip core t functions k p scope) (Read (Var (local_name n))) value (suc n))

-- where there is none, no expression stands for it
abbrev pub PlainEnsuresAreSet : Type 0
PlainEnsuresAreSet =
    (core : ModuleCore) → ValidCore core → (k : ℕ) (p : ProcCore) → slice_get core.procs k ≡ Some p → p.result ≡ None
    → (skip : ℕ → Bool) (t : Target) (functions : Calls) (scope : List ℕ) (outcome : Expr) (value : Option Value) (n : ℕ) → length p.locals ≤ n
    → Set (ensures_setting (setting_for skip core t functions k p scope) outcome value n)

-- with a result that fits
abbrev pub EnsuresAreStaged : Type 0
EnsuresAreStaged =
    (core : ModuleCore) → ValidCore core → (k : ℕ) (p : ProcCore) → slice_get core.procs k ≡ Some p
    → (skip : ℕ → Bool) (t : Target) (functions : Calls) (scope : List ℕ) (entry : Entry) (waiting : List Activation) (s : State) → Scoped core (inside p scope entry) waiting s
    → (value : Option Value) → ResultFits core entry s.areas p.result value → (outcome : Expr) (n : ℕ)
    → Stage (ensures_setting (setting_for skip core t functions k p scope) outcome value n) s
