-- What holds of each valid core: its first state is scoped, each statement of its procedures keeps that, and none of its runs is undefined.
use Rattle.std.specs.Prelude.{◌≡◌, ℕ, suc, ◌<◌, List, [], ◌∷◌, length, take, slice_get, Contains, Some}
use Rattle.run_records.specs.declared.Script.{Script}
use Rattle.run_records.specs.Scripts.{Fits}
use Rattle.step_semantics.specs.Steps.{World, block}
use Rattle.step_semantics.specs.Control.{Falls, Broke, Returned}
use Rattle.step_semantics.specs.Safe.{Safe, NeverUndefined}
use Rattle.core_tree.specs.Environments.{Point, after}
use Rattle.core_tree.specs.Exports.{exports_of}
use Rattle.core_tree.specs.Syntax.{StmtCore, StmtsCore, ProcCore, ModuleCore}
use Rattle.core_tree.specs.TypedItems.{below, env_of}
use Rattle.core_tree.specs.TypedStatements.{StmtTyped, StmtsTyped}
use Rattle.core_tree.specs.Valid.{ValidCore}
use Rattle.core_meaning.specs.Calls.{Calls, no_procedures}
use Rattle.core_meaning.specs.Conditions.{ensured}
use Rattle.core_meaning.specs.Run.{with_procedure, run_src}
use Rattle.core_meaning.specs.State.{State, leave, first_state}
use Rattle.core_meaning.specs.Statements.{Flow, exec, exec_all}
use Rattle.region_soundness.specs.Fitting.{Entry}
use Rattle.region_soundness.specs.Scoped.{Activation, Scoped}

-- ---- first states

-- the outside has no names, and no areas but the module's
abbrev pub outside : ModuleCore → Activation
outside core = record { locals = []; scope = []; entry = record { params = []; args = []; first = length core.areas } }

abbrev pub FirstStatesAreScoped : Type 0
FirstStatesAreScoped = (core : ModuleCore) → ValidCore core → Scoped core (outside core) [] (first_state core)

-- ---- statements

-- more procedures that may be called, from this number on
abbrev pub calls_among : ModuleCore → Calls → (number : ℕ) → List ProcCore → Calls
calls_among core calls number [] = calls
calls_among core calls number (p ∷ ps) = calls_among core (with_procedure core calls number p) (suc number) ps

-- what the procedure of a number may call
abbrev pub calls_before : ModuleCore → ℕ → Calls
calls_before core k = calls_among core (no_procedures core) 0 (take k core.procs)

-- a place in the procedure: the locals in scope stand before it in the text, and the parameters are among them
pub record PlaceIn (p : ProcCore) (at : Point) : Type 0 where
  pub before : (m : ℕ) → Contains at.scope m → m < at.next
  pub parameters : (m : ℕ) → Contains (below (length p.params)) m → Contains at.scope m

abbrev pub inside : ProcCore → (scope : List ℕ) → Entry → Activation
inside p scope entry = record { locals = p.locals; scope = scope; entry = entry }

-- A statement that falls through leaves the names that it brings in scope; one that breaks off or returns leaves those that it found.
abbrev pub KeepsScope : ModuleCore → ProcCore → Point → StmtCore → Entry → List Activation → Flow → State → Type 0
KeepsScope core p at c entry waiting Falls u = Scoped core (inside p (after c at).scope entry) waiting u
KeepsScope core p at c entry waiting Broke u = Scoped core (inside p at.scope entry) waiting u
KeepsScope core p at c entry waiting (Returned result) u = Scoped core (inside p at.scope entry) waiting u

-- each statement of each procedure, wherever it stands well typed
abbrev pub StatementsKeepScopes : Type 0
StatementsKeepScopes =
    (core : ModuleCore) → ValidCore core → (k : ℕ) (p : ProcCore) → slice_get core.procs k ≡ Some p → (at : Point) (c : StmtCore) → PlaceIn p at → StmtTyped (env_of core (take k core.procs) p) at c
    → (entry : Entry) (waiting : List Activation) (s : State) → Scoped core (inside p at.scope entry) waiting s → (n : ℕ) (w : World)
    → Safe (KeepsScope core p at c entry waiting) (exec core (calls_before core k) (ensured core p) c n w s)

-- each block leaves its place's names, however control leaves it
abbrev pub BlocksKeepScopes : Type 0
BlocksKeepScopes =
    (core : ModuleCore) → ValidCore core → (k : ℕ) (p : ProcCore) → slice_get core.procs k ≡ Some p → (at : Point) (ss : StmtsCore) → PlaceIn p at → StmtsTyped (env_of core (take k core.procs) p) at ss
    → (entry : Entry) (waiting : List Activation) (s : State) → Scoped core (inside p at.scope entry) waiting s → (n : ℕ) (w : World)
    → Safe (λ flow u. Scoped core (inside p at.scope entry) waiting u) (block leave (exec_all core (calls_before core k) (ensured core p) ss) n w s)

-- ---- runs

-- for every script that fits and every number of steps
abbrev pub RunsAreDefined : Type 0
RunsAreDefined = (core : ModuleCore) → ValidCore core → (script : Script) → Fits script (exports_of core) → NeverUndefined (run_src core script)
