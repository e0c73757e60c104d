-- What is shown of expressions: in any related states, the statements before an expression follow its evaluation, step for step, and what
-- comes after them goes on from the value. The step of the last operator may still be owed, and credit may be left for a step of C.
use Rattle.std.specs.Prelude.{◌≡◌, ℕ, ◌+◌, ◌^◌, ◌<◌, ◌≤◌, List, All, ◌++◌, Bool, true, false, not, if◌then◌else◌, Option, IsTrue}
use Rattle.step_semantics.specs.Control.{Control}
use Rattle.step_semantics.specs.Follows.{Follows}
use Rattle.step_semantics.specs.Steps.{World, Part, bind, ticks}
use Rattle.area_types.specs.Syntax.{ValueType, Ref, Stored}
use Rattle.area_types.specs.declared.region.Region.{Region}
use Rattle.area_types.specs.Tables.{has_index_length}
use Rattle.source_types.specs.Values.{is_reference}
use Rattle.core_tree.specs.Checks.{expr_checks}
use Rattle.core_tree.specs.declared.Check.{Check}
use Rattle.core_tree.specs.Syntax.{ExprCore, type_of}
use Rattle.core_tree.specs.TypedExpressions.{ExprTyped}
use Rattle.core_meaning.specs.Expressions.{eval}
use Rattle.core_meaning.specs.Gives.{Gives}
use Rattle.core_meaning.specs.State.{State}
use Rattle.core_meaning.specs.Values as source
use Rattle.core_meaning.specs.Values.{Value}
use Rattle.c_ast.specs.Syntax.{Stmt}
use Rattle.c_ast.specs.View.{stmts_from}
use Rattle.c_meaning.specs.State.{CState}
use Rattle.c_meaning.specs.Statements.{exec_all}
use Rattle.c_meaning.specs.Values.{CValue}
use Rattle.area_objects.specs.Both.{Map}
use Rattle.region_soundness.specs.Fitting.{Entry, ValueFits}
use Rattle.lower_values.specs.Expressions.{raw, place}
use Rattle.lower_values.specs.Pieces.{Piece, PlacePiece, is_exact}
use Rattle.value_refinement.specs.Kept.{Kept}
use Rattle.value_refinement.specs.Related.{Related}
use Rattle.value_refinement.specs.Settings.{Setting, Set}
use Rattle.value_refinement.specs.Values.{Comes, Arrives}

-- ---- steps

abbrev pub owing : Bool → ℕ
owing true = 1
owing false = 0

-- what a step that its tests have paid leaves over
abbrev pub spare : Piece → ℕ
spare p = if p.owed then 0 else if is_exact p.standing then 0 else 8

-- ---- the source's side

-- what the source's soundness lends: the value that an expression gives fits its type
pub record Stage (g : Setting) (s : State) : Type 0 where
  pub entry : Entry
  pub fits : (e : ExprCore) (v : Value) → ExprTyped g.env g.scope e → Gives g.frame.core g.outcome s e v → ValueFits g.frame.core entry s.areas (type_of e) v
  -- no area holds references
  pub stored : (e : ExprCore) (constant : Bool) (region : Region) (held : ValueType) → ExprTyped g.env g.scope e → type_of e ≡ Ref constant region (Stored held) → IsTrue (not (is_reference held))
  pub indexed : (e : ExprCore) → ExprTyped g.env g.scope e → IsTrue (has_index_length (type_of e))

-- its checks have numbers that C has constants for
abbrev pub Numbered : List Check → Type 0
Numbered checks = All (λ c. c.site < 2 ^ 32) checks

-- ---- following

-- `rest` are the statements behind those of the expression
abbrev pub running : Setting → List Stmt → Part CState (Control (Option CValue))
running g statements = exec_all g.program g.functions (stmts_from statements)

module _ (g : Setting) (objects : Map) (s : State) where
  -- what a piece of C leaves behind it follows, whatever is done with the value
  pub record Goes {A : Type 0} (post : A → State → Control (Option CValue) → CState → Type 0) (go : Value → Part State A) (rest : List Stmt) (x y from : ℕ) (p : Piece) (e : ExprCore) (t : CState) : Type 0 where
    pub by : (v : Value) (u : CState) → Gives g.frame.core g.outcome s e v → Comes g objects s from p (type_of e) t v u
        → (m : ℕ) (w : World) → Follows g.frame.skip post (x + spare p) y m (ticks (owing p.owed) (go v) m w s) (λ j. running g rest j w u)

  pub record GoesTo {A : Type 0} (post : A → State → Control (Option CValue) → CState → Type 0) (go : Value → Part State A) (rest : List Stmt) (x y from : ℕ) (p : PlacePiece) (e : ExprCore) (t : CState) : Type 0 where
    pub by : (k : ℕ) (path : List ℕ) (u : CState) → Gives g.frame.core g.outcome s e (source.Ref k path) → Arrives g objects s from p.place p.next (type_of e) t k path u
        → (m : ℕ) (w : World) → Follows g.frame.skip post x y m (go (source.Ref k path) m w s) (λ j. running g rest j w u)

  abbrev pub RawFollows : ExprCore → Type 1
  RawFollows e =
      (A : Type 0) (post : A → State → Control (Option CValue) → CState → Type 0) (go : Value → Part State A) (rest : List Stmt) (x y from : ℕ) → g.first ≤ from
      → (t : CState) → Related g objects s t → Goes {A = A} post go rest x y from (raw g.frame e from) e t
      → (n : ℕ) (w : World) → Follows g.frame.skip post x y n (bind (eval g.frame.core g.outcome e) go n w s) (λ j. running g ((raw g.frame e from).before ++ rest) j w t)

  -- of a reference
  abbrev pub PlaceFollows : ExprCore → Type 1
  PlaceFollows e =
      (A : Type 0) (post : A → State → Control (Option CValue) → CState → Type 0) (go : Value → Part State A) (rest : List Stmt) (x y from : ℕ) → g.first ≤ from
      → (t : CState) → Related g objects s t → GoesTo {A = A} post go rest x y from (place g.frame e from) e t
      → (n : ℕ) (w : World) → Follows g.frame.skip post x y n (bind (eval g.frame.core g.outcome e) go n w s) (λ j. running g ((place g.frame e from).before ++ rest) j w t)

-- ---- the law

abbrev pub ExpressionsFollow : Type 1
ExpressionsFollow =
    (g : Setting) → Set g → (objects : Map) (s : State) → Stage g s → (e : ExprCore) → ExprTyped g.env g.scope e → Numbered (expr_checks e)
    → RawFollows g objects s e × (IsTrue (is_reference (type_of e)) → PlaceFollows g objects s e)

-- temporaries and their objects leave a state related
abbrev pub StatesStayRelated : Type 0
StatesStayRelated = (g : Setting) → Set g → (objects : Map) (s : State) (k : ℕ) → g.first ≤ k → (u w : CState) → Kept g.program k u w → Related g objects s u → Related g objects s w
