-- Statements and calls as the code takes them apart.
use Rattle.std.specs.Prelude.{ℕ, suc, pred, ℤ, Bool, true, false, unsigned_abs, slice_get, if◌then◌else◌, List, map, Option, None}
use Rattle.std.specs.Option.{option_map}
use Rattle.step_semantics.specs.Control.{Falls, again}
use Rattle.step_semantics.specs.Steps.{Part, give, bind, tick}
use Rattle.core_tree.specs.Syntax.{ModuleCore, ExprCore, StmtCore}
use Rattle.core_tree.specs.View.{if_from, stmt_of}
use Rattle.core_tree.specs.declared.CoreStmt.{CoreStmt}
use Rattle.core_meaning.specs.Calls.{Calls}
use Rattle.core_meaning.specs.Checks.{on_number, on_some}
use Rattle.core_meaning.specs.Expressions.{eval}
use Rattle.core_meaning.specs.Imports.{outside}
use Rattle.core_meaning.specs.State.{State}
use Rattle.core_meaning.specs.Statements.{Flow}
use Rattle.core_meaning.specs.Values.{Value}

-- `if` as the code's trees have it
abbrev pub choice_of : ExprCore → List CoreStmt → Option (List CoreStmt) → StmtCore
choice_of e first second = if_from e (map stmt_of first) (option_map (λ b. map stmt_of b) second)

-- what follows a number in a loop
abbrev pub next_of : (down : Bool) → ℕ → ℕ
next_of true = pred
next_of false = suc

-- a loop with a bound: its step, and then what comes with the bound
abbrev pub bound_behind : {A : Type 0} → ModuleCore → Value → (ℕ → Part State A) → Part State A
bound_behind core x next = on_number core x (λ v. tick (next (unsigned_abs v)))

abbrev pub with_bound : {A : Type 0} → ModuleCore → ExprCore → (ℕ → Part State A) → Part State A
with_bound core e next = bind (eval core None e) (λ x. bound_behind core x next)

-- the last turn, behind which the loop falls through
abbrev pub last : Part State Flow → Part State Flow
last body = bind (tick body) (again (give Falls))

-- the call of an import or of a procedure by its number
abbrev pub called_by : ModuleCore → Calls → (import : Bool) → (callee : ℕ) → List Value → Part State (Option Value)
called_by core calls import callee args = if import then on_some core (slice_get core.imports callee) (λ i. outside core i args) else tick (calls callee args)
