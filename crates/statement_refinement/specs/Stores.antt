-- A store through a reference: what is asked of it, and what it leaves on both sides.
use Rattle.std.specs.Prelude.{◌≡◌, ℕ, ◌<◌, ◌≤◌, ℤ, false, List, length, Option, None}
use Rattle.type_trees.specs.Values.{Cell}
use Rattle.step_semantics.specs.Control.{Control, Falls, Broke, Returned}
use Rattle.step_semantics.specs.Follows.{Follows}
use Rattle.step_semantics.specs.Steps.{World, bind}
use Rattle.area_types.specs.Syntax.{Ref, Stored}
use Rattle.area_types.specs.declared.region.Region.{Region}
use Rattle.core_tree.specs.Checks.{expr_checks}
use Rattle.core_tree.specs.Syntax.{ExprCore, type_of}
use Rattle.core_tree.specs.TypedExpressions.{ExprTyped}
use Rattle.core_meaning.specs.Expressions.{eval}
use Rattle.core_meaning.specs.Gives.{Gives}
use Rattle.core_meaning.specs.State.{State, holding}
use Rattle.core_meaning.specs.Statements.{Flow, store}
use Rattle.core_meaning.specs.Values as source
use Rattle.core_meaning.specs.Values.{Value}
use Rattle.c_memory.specs.Abstract.{Same}
use Rattle.c_ast.specs.Names.{named}
use Rattle.c_ast.specs.Scalars.{metric_of}
use Rattle.c_ast.specs.Syntax.{Name, Stmt}
use Rattle.c_meaning.specs.Memory.{memory_of}
use Rattle.c_meaning.specs.State.{Program, CState}
use Rattle.c_meaning.specs.Values.{CValue}
use Rattle.area_objects.specs.Both.{Map}
use Rattle.lower_values.specs.Expressions as lowered
use Rattle.lower_values.specs.Expressions.{place}
use Rattle.lower_statements.specs.Statements.{stored}
use Rattle.value_refinement.specs.Laws.{Numbered, Stage, running}
use Rattle.value_refinement.specs.Related.{Related}
use Rattle.value_refinement.specs.Settings.{Setting, Set, IsOld}
use Rattle.statement_refinement.specs.Apart.{OfNoArea, CountersApart}

-- what a write to an area keeps: every name but those of temporaries from number k on, and every object of no area that there was
pub record KeptApart (p : Program) (objects : Map) (k : ℕ) (t u : CState) : Type 0 where
  pub names : (x : Name) → IsOld k x → named u.frames.own x ≡ named t.frames.own x
  pub callers : u.frames.callers ≡ t.frames.callers
  pub count : length t.objects ≤ length u.objects
  pub objects_apart : (o : ℕ) → o < length t.objects → OfNoArea objects o → Same (metric_of p.target) (memory_of p.target) t.objects u.objects o

-- ---- the statement

-- the target is a mutable reference to a stored value of the value's type, in a body, where no `result` may be named
pub record IsStore (g : Setting) (target value : ExprCore) : Type 0 where
  pub region : Region
  pub value_typed : ExprTyped g.env g.scope value
  pub target_typed : ExprTyped g.env g.scope target
  pub target_is : type_of target ≡ Ref false region (Stored (type_of value))
  pub in_body : g.env.outcome ≡ None

-- the number is in the cell, and all else as it was
pub record HasStored (g : Setting) (objects : Map) (s : State) (target value : ExprCore) (from : ℕ) (t : CState) (s2 : State) (u : CState) : Type 0 where
  pub area : ℕ
  pub path : List ℕ
  pub number : ℤ
  pub leads : Gives g.frame.core g.outcome s target (source.Ref area path)
  pub given : Gives g.frame.core g.outcome s value (source.Num number)
  pub is : s2 ≡ holding area path (Cell number) s
  pub kept : KeptApart g.program objects from t u
  pub related : Related g objects s2 u
  pub apart : CountersApart g objects s2 u

-- both fall through
abbrev pub StoreDone : Setting → Map → State → (target value : ExprCore) → ℕ → CState → Flow → State → Control (Option CValue) → CState → Type 0
StoreDone g objects s target value from t Falls s2 Falls u = HasStored g objects s target value from t s2 u
StoreDone g objects s target value from t Falls s2 Broke u = ⊥
StoreDone g objects s target value from t Falls s2 (Returned v) u = ⊥
StoreDone g objects s target value from t Broke s2 control u = ⊥
StoreDone g objects s target value from t (Returned v) s2 control u = ⊥

abbrev pub store_statements : Setting → (target value : ExprCore) → ℕ → List Stmt
store_statements g target value from = (stored (lowered.value_of g.frame value from) (place g.frame target (lowered.value_of g.frame value from).next)).stmts

-- the C of a store follows it, with no credit before or after
abbrev pub StoresFollow : Type 0
StoresFollow =
    (g : Setting) → Set g → (objects : Map) (s : State) → Stage g s → (target value : ExprCore) → IsStore g target value → Numbered (expr_checks target) → Numbered (expr_checks value)
    → (from : ℕ) → g.first ≤ from → (t : CState) → Related g objects s t → CountersApart g objects s t → (n : ℕ) (w : World)
    → Follows g.frame.skip (StoreDone g objects s target value from t) 0 0 n (bind (eval g.frame.core g.outcome value) (λ v. bind (eval g.frame.core g.outcome target) (λ r. store g.frame.core r v)) n w s)
    (λ j. running g (store_statements g target value from) j w t)
