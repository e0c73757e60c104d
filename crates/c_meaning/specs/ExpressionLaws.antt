-- What holds of the values of expressions: they have the types of their expressions, and their numbers are numbers of these types; and an
-- expression that has a type is never stuck.
use Rattle.std.specs.Prelude.{◌≡◌, ◌≢◌, ℕ, ℤ, ⊤, All, Option, Some, IfOk, IsTrue, Ok, Err}
use Rattle.c_ast.specs.declared.CKind.TheVariants.{Scalar}
use Rattle.c_ast.specs.declared.CScalar.{CScalar}
use Rattle.c_ast.specs.declared.Target.{Target}
use Rattle.c_ast.specs.Syntax.{Expr, Place}
use Rattle.c_ast.specs.StaticTypes.{ValueType, PlaceType, Held, Stored}
use Rattle.c_ast.specs.Targets.{TargetTable, table_of}
use Rattle.c_ast.specs.Conversions.{can_hold}
use Rattle.c_meaning.specs.Values.{Stuck, CValue, Num, Ptr, held_type}
use Rattle.c_meaning.specs.Memory.{CObjects, memory_of}
use Rattle.c_meaning.specs.State.{Program, Slot, Holding, Naming, CState}
use Rattle.c_meaning.specs.Places.{Lvalue, Known, Located}
use Rattle.c_meaning.specs.Expressions.{static_type, static_place_type, eval, eval_place}

-- a value whose number is one of its type
abbrev pub IsTyped : TargetTable → CValue → Type 0
IsTyped t (Num kind v) = IsTrue (can_hold t kind v)
IsTyped t (Ptr constant base to) = ⊤

abbrev pub SlotIsTyped : TargetTable → Slot → Type 0
SlotIsTyped t (Holding v) = IsTyped t v
SlotIsTyped t (Naming object base) = ⊤

abbrev pub NamesAreTyped : TargetTable → CState → Type 0
NamesAreTyped t s = All (λ n. SlotIsTyped t n.1) s.frames.own

-- its number is one of its type, and its type is that of its expression, where that has one
pub record HasItsType (t : TargetTable) (of_expression : Option ValueType) (v : CValue) : Type 0 where
  pub typed : IsTyped t v
  pub agrees : (type : ValueType) → of_expression ≡ Some type → held_type v ≡ type

-- a place has the type of its expression; a value that a name holds is one of its type
abbrev pub place_type_of : Lvalue → PlaceType
place_type_of (Known v) = Held (held_type v)
place_type_of (Located constant to a) = Stored constant a

abbrev pub IsTypedPlace : TargetTable → Lvalue → Type 0
IsTypedPlace t (Known v) = IsTyped t v
IsTypedPlace t (Located constant to a) = ⊤

pub record HasItsPlaceType (t : TargetTable) (of_place : Option PlaceType) (l : Lvalue) : Type 0 where
  pub typed : IsTypedPlace t l
  pub agrees : (type : PlaceType) → of_place ≡ Some type → place_type_of l ≡ type

abbrev pub PlacesHaveTheirTypes : Type 0
PlacesHaveTheirTypes =
    (p : Program) (place : Place) (s : CState) → NamesAreTyped (table_of p.target) s
    → IfOk (eval_place p place s) (HasItsPlaceType (table_of p.target) (static_place_type p s place))

abbrev pub ValuesHaveTheirTypes : Type 0
ValuesHaveTheirTypes =
    (p : Program) (e : Expr) (s : CState) → NamesAreTyped (table_of p.target) s
    → IfOk (eval p e s) (HasItsType (table_of p.target) (static_type p s e))

-- ---- typed expressions

-- each number that a read gives is one that its scalar can hold
abbrev pub ReadsAreHeld : Target → CObjects → Type 0
ReadsAreHeld t objects = (o : ℕ) (x : ℕ × CScalar) (v : ℤ) → (memory_of t).read objects o x ≡ Ok v → IsTrue (can_hold (table_of t) (Scalar x.1) v)

abbrev pub TypedExpressionsAreNotStuck : Type 0
TypedExpressionsAreNotStuck =
    (p : Program) (e : Expr) (s : CState) (type : ValueType) → NamesAreTyped (table_of p.target) s → ReadsAreHeld p.target s.objects
    → static_type p s e ≡ Some type → eval p e s ≢ Err Stuck
