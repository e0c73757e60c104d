-- Tests of conditions: what an `assert`, and what a procedure requires or ensures, take and leave on both sides.
use Rattle.std.specs.Prelude.{◌≡◌, ℕ, ◌≤◌, List, ◌∷◌, All, Option, None}
use Rattle.step_semantics.specs.Control.{Control, Falls, Broke, Returned}
use Rattle.step_semantics.specs.Follows.{Follows}
use Rattle.step_semantics.specs.Steps.{World}
use Rattle.area_types.specs.Syntax.{Truth}
use Rattle.core_tree.specs.Checks.{expr_checks}
use Rattle.core_tree.specs.declared.Check.{Check}
use Rattle.core_tree.specs.Syntax.{ExprCore, ContractCore, Assert}
use Rattle.core_tree.specs.TypedExpressions.{HasType}
use Rattle.core_meaning.specs.Calls.{Calls}
use Rattle.core_meaning.specs.Conditions.{Ensured, tested_all}
use Rattle.core_meaning.specs.State.{State}
use Rattle.core_meaning.specs.Statements.{Flow, exec}
use Rattle.c_meaning.specs.State.{CState}
use Rattle.c_meaning.specs.Values.{CValue}
use Rattle.area_objects.specs.Both.{Map}
use Rattle.lower_statements.specs.Conditions.{tested, contract_tests}
use Rattle.value_refinement.specs.Kept.{Kept}
use Rattle.value_refinement.specs.Laws.{Numbered, Stage, running}
use Rattle.value_refinement.specs.Related.{Related}
use Rattle.value_refinement.specs.Settings.{Setting, Set}

-- C falls through and keeps what there was, and the source's state is as it was
abbrev pub Passed : Setting → State → ℕ → CState → Unit {0} → State → Control (Option CValue) → CState → Type 0
Passed g s from t done s2 Falls u = (s2 ≡ s) × Kept g.program from t u
Passed g s from t done s2 Broke u = ⊥
Passed g s from t done s2 (Returned v) u = ⊥

-- the source falls through too
abbrev pub AssertDone : Setting → State → ℕ → CState → Flow → State → Control (Option CValue) → CState → Type 0
AssertDone g s from t Falls s2 control u = Passed g s from t tt s2 control u
AssertDone g s from t Broke s2 control u = ⊥
AssertDone g s from t (Returned v) s2 control u = ⊥

-- the C of an `assert` follows it, with no credit before or after
abbrev pub AssertsFollow : Type 0
AssertsFollow =
    (g : Setting) → Set g → g.outcome ≡ None → (objects : Map) (s : State) → Stage g s → (e : ExprCore) → HasType g.env g.scope e Truth → (check : Check) → Numbered (check ∷ expr_checks e)
    → (calls : Calls) (ensured : Ensured) (from : ℕ) → g.first ≤ from → (t : CState) → Related g objects s t → (n : ℕ) (w : World)
    → Follows g.frame.skip (AssertDone g s from t) 0 0 n (exec g.frame.core calls ensured (Assert e check) n w s) (λ j. running g (tested g.frame e check from).stmts j w t)

-- and so do the tests of contracts
abbrev pub ContractsFollow : Type 0
ContractsFollow =
    (g : Setting) → Set g → (objects : Map) (s : State) → Stage g s → (cs : List ContractCore) → All (λ c. HasType g.env g.scope c.cond Truth) cs → All (λ c. Numbered (c.check ∷ expr_checks c.cond)) cs
    → (from : ℕ) → g.first ≤ from → (t : CState) → Related g objects s t → (n : ℕ) (w : World)
    → Follows g.frame.skip (Passed g s from t) 0 0 n (tested_all g.frame.core g.outcome cs n w s) (λ j. running g (contract_tests g.frame cs from).stmts j w t)
