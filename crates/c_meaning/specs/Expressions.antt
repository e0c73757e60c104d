-- The values of expressions (C99 6.5), from left to right. An expression takes no step.
use Rattle.std.specs.Prelude.{List, [], ◌∷◌, Option, Some, None, if◌then◌else◌, Result, Ok, Err}
use Rattle.c_ast.specs.Syntax.{Expr, Number, Read, Address, Unary, Binary, Cast, Cond, Place, Var, At, Member, Element}
use Rattle.c_ast.specs.StaticTypes.{ValueType, PlaceType, Arithmetic, PointerTo, expr_type, place_type}
use Rattle.c_ast.specs.Targets.{TargetTable, table_of}
use Rattle.c_meaning.specs.Values.{Trouble, Stuck, CValue, is_true, on_ok, as_kind, constant_value}
use Rattle.c_meaning.specs.Operators.{unary, binary}
use Rattle.c_meaning.specs.State.{Program, CState}
use Rattle.c_meaning.specs.Scopes.{scope_of}
use Rattle.c_meaning.specs.Places.{Lvalue, name_place, pointee, member_of, element_of, read, address_of, cast}

-- the type of an expression where these names are in scope
abbrev pub static_type : Program → CState → Expr → Option ValueType
static_type p s e = expr_type (table_of p.target) p.unit.structs (scope_of p s) e

abbrev pub static_place_type : Program → CState → Place → Option PlaceType
static_place_type p s place = place_type (table_of p.target) p.unit.structs (scope_of p s) place

-- The arm of `?:` that is taken, in the type of the whole, which is the common type of both (6.5.15).
abbrev pub as_common : TargetTable → Option ValueType → Result CValue Trouble → Result CValue Trouble
as_common t None arm = Err Stuck
as_common t (Some (Arithmetic kind)) arm = on_ok arm (as_kind t kind)
as_common t (Some (PointerTo constant base)) arm = Err Stuck

-- A value and a place, or why there is none. Of an element the array comes before the index.
abbrev mutual
  pub eval : Program → Expr → CState → Result CValue Trouble
  eval p (Number v suffix) s = constant_value p.target suffix v
  eval p (Read place) s = on_ok (eval_place p place s) (read p.target s)
  eval p (Address place) s = on_ok (eval_place p place s) address_of
  eval p (Unary op e) s = on_ok (eval p e s) (unary (table_of p.target) op)
  eval p (Binary op a b) s = on_ok (eval p a s) (λ v. binary (table_of p.target) op v (eval p b s))
  eval p (Cast to e) s = on_ok (eval p e s) (cast p.target s to)
  eval p (Cond c a b) s =
      on_ok (on_ok (eval p c s) is_true) (λ holds. as_common (table_of p.target) (static_type p s (Cond c a b)) (if holds then eval p a s else eval p b s))

  pub eval_place : Program → Place → CState → Result Lvalue Trouble
  eval_place p (Var x) s = name_place p s x
  eval_place p (At e) s = on_ok (eval p e s) (pointee p.unit.structs)
  eval_place p (Member place m) s = on_ok (eval_place p place s) (member_of p.target m)
  eval_place p (Element place e) s = on_ok (eval_place p place s) (λ array. on_ok (eval p e s) (element_of p.target array))

abbrev pub eval_all : Program → List Expr → CState → Result (List CValue) Trouble
eval_all p [] s = Ok []
eval_all p (e ∷ es) s = on_ok (eval p e s) (λ v. on_ok (eval_all p es s) (λ vs. Ok (v ∷ vs)))
