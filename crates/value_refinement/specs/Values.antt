-- What the statements before an expression leave: a state in which the expression stands for the value that the source's gives, and goes on
-- to do so while what it reads is kept.
use Rattle.std.specs.Prelude.{◌≡◌, ◌≤◌, ℕ, List, Bool, true, false, Some, IsTrue}
use Rattle.area_types.specs.Syntax.{ValueType}
use Rattle.core_meaning.specs.State.{State}
use Rattle.core_meaning.specs.Values.{Value, Num, Ref}
use Rattle.c_ast.specs.Syntax.{Expr, Place}
use Rattle.c_ast.specs.StaticTypes.{Arithmetic}
use Rattle.c_ast.specs.declared.CKind.{CKind}
use Rattle.c_meaning.specs.Expressions.{static_type}
use Rattle.c_meaning.specs.State.{Program, CState}
use Rattle.area_objects.specs.Both.{Map}
use Rattle.lower_types.specs.Types.{scalar_for}
use Rattle.lower_values.specs.Pieces.{Piece, Standing, Exact, Same, Near, is_atom}
use Rattle.value_refinement.specs.Kept.{Kept}
use Rattle.value_refinement.specs.Related.{is_constant, PointerIs, PlaceIs}
use Rattle.value_refinement.specs.Settings.{Setting}
use Rattle.form_answers.specs.Standing.{Stands}

-- the type of the expression is that of a number
pub record HasArithmetic (p : Program) (w : CState) (e : Expr) : Type 0 where
  pub kind : CKind
  pub type : static_type p w e ≡ Some (Arithmetic kind)

-- What stands exactly and is owed nothing is a constant or a name: it needs no step to be taken again. What stands by its number then may be
-- an index, so it has a type.
abbrev pub Simple : Program → CState → Standing → (owed : Bool) → Expr → Type 0
Simple p w Exact false e = IsTrue (is_atom e)
Simple p w Exact true e = Unit {0}
Simple p w Same false e = HasArithmetic p w e
Simple p w Same true e = Unit {0}
Simple p w Near owed e = Unit {0}

module _ (g : Setting) (objects : Map) (s : State) where
  abbrev pub StandsFor : Piece → ValueType → CState → Value → Type 0
  StandsFor p ty w (Num n) = Simple g.program w p.standing p.owed p.value × Stands p.standing g.program w (scalar_for g.frame.table ty) p.value n
  StandsFor p ty w (Ref k path) = PointerIs g objects s.areas w (is_constant ty) p.value k path

  -- a piece of this type, made from state t with temporaries from number `from` on
  pub record Comes (from : ℕ) (p : Piece) (ty : ValueType) (t : CState) (v : Value) (u : CState) : Type 0 where
    pub grows : from ≤ p.next
    pub kept : Kept g.program from t u
    pub stands : (w : CState) → Kept g.program p.next u w → StandsFor p ty w v

  -- a place that a reference of this type leads to
  pub record Arrives (from : ℕ) (to : Place) (next : ℕ) (ty : ValueType) (t : CState) (k : ℕ) (path : List ℕ) (u : CState) : Type 0 where
    pub grows : from ≤ next
    pub kept : Kept g.program from t u
    pub stands : (w : CState) → Kept g.program next u w → PlaceIs g objects s.areas w (is_constant ty) to k path
