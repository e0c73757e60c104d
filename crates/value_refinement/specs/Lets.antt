-- The declaration of a local by its value: what a `let` takes and leaves on both sides.
use Rattle.std.specs.Prelude.{◌≡◌, ℕ, ◌<◌, ◌≤◌, List, [], ◌∷◌, ◌++◌, Contains, slice_get, false, Option, Some, None}
use Rattle.step_semantics.specs.Control.{Control, Falls, Broke, Returned}
use Rattle.step_semantics.specs.Follows.{Follows}
use Rattle.step_semantics.specs.Steps.{World, bind, tick}
use Rattle.area_types.specs.Syntax.{ValueType}
use Rattle.core_tree.specs.Checks.{expr_checks}
use Rattle.core_tree.specs.Syntax.{ExprCore, type_of}
use Rattle.core_tree.specs.TypedExpressions.{ExprTyped}
use Rattle.core_meaning.specs.Expressions.{eval}
use Rattle.core_meaning.specs.Gives.{Gives}
use Rattle.core_meaning.specs.State.{State, with_name}
use Rattle.core_meaning.specs.Statements.{Flow, naming}
use Rattle.core_meaning.specs.Values.{Value}
use Rattle.c_ast.specs.Names.{named}
use Rattle.c_ast.specs.Syntax.{Name, Stmt, Const}
use Rattle.c_meaning.specs.State.{CState, Holding}
use Rattle.c_meaning.specs.Values.{CValue}
use Rattle.area_objects.specs.Both.{Map}
use Rattle.lower_types.specs.Names.{local_name}
use Rattle.lower_values.specs.Expressions.{value_of}
use Rattle.lower_values.specs.Frames.{is_object, name_of, type_in}
use Rattle.value_refinement.specs.Kept.{Kept}
use Rattle.value_refinement.specs.Laws.{Numbered, Stage, running}
use Rattle.value_refinement.specs.Related.{Related}
use Rattle.value_refinement.specs.Settings.{Setting, Set, IsOld}

-- one more local in scope
abbrev pub with_local : Setting → ℕ → Setting
with_local g x = record g { scope = x ∷ g.scope }

-- a local of this type that may come into scope
pub record IsNewLocal (g : Setting) (x : ℕ) (ty : ValueType) : Type 0 where
  pub type : slice_get g.env.locals x ≡ Some ty
  pub holds_value : is_object g.frame x ≡ false
  pub named : name_of g.frame x ≡ local_name x
  pub below : x < g.first
  -- those in scope were declared before it
  pub before : (y : ℕ) (other : ValueType) → Contains g.scope y → slice_get g.env.locals y ≡ Some other → IsOld x (name_of g.frame y)
  pub in_body : g.env.outcome ≡ None

-- the name holds a value, and names no object
pub record IsHolding (x : Name) (u : CState) : Type 0 where
  pub value : CValue
  pub is : named u.frames.own x ≡ Some (Holding value)

-- both fall through, with the name in scope
abbrev pub LetDone : Setting → Map → State → ℕ → ExprCore → CState → Flow → State → Control (Option CValue) → CState → Type 0
LetDone g objects s x e t Falls s2 Falls u = (v : Value) × Gives g.frame.core g.outcome s e v × (s2 ≡ with_name x v s) × Kept g.program x t u × Related (with_local g x) objects s2 u × IsHolding (local_name x) u
LetDone g objects s x e t Falls s2 Broke u = ⊥
LetDone g objects s x e t Falls s2 (Returned v) u = ⊥
LetDone g objects s x e t Broke s2 control u = ⊥
LetDone g objects s x e t (Returned v) s2 control u = ⊥

abbrev pub let_statements : Setting → ℕ → ExprCore → ℕ → List Stmt
let_statements g x e from = (value_of g.frame e from).before ++ Const (local_name x) (type_in g.frame (type_of e)) (value_of g.frame e from).value ∷ []

-- the C of a `let` follows it, with no credit before or after
abbrev pub LetsFollow : Type 0
LetsFollow =
    (g : Setting) → Set g → (objects : Map) (s : State) → Stage g s → (e : ExprCore) → ExprTyped g.env g.scope e → Numbered (expr_checks e) → (x : ℕ) → IsNewLocal g x (type_of e)
    → (from : ℕ) → g.first ≤ from → (t : CState) → Related g objects s t → (n : ℕ) (w : World)
    → Follows g.frame.skip (LetDone g objects s x e t) 0 0 n (bind (eval g.frame.core g.outcome e) (λ v. tick (naming x v)) n w s) (λ j. running g (let_statements g x e from) j w t)
