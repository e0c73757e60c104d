-- Values with their types: how they are converted (C99 6.3.1), and the values of constants (6.4.4.1); and why there may be none.
use Rattle.std.specs.Prelude.{ℕ, ℤ, pos, Bool, not, ◌&&◌, ◌||◌, if◌then◌else◌, List, [], ◌∷◌, Option, Some, None, Result, Ok, Err}
use Rattle.std.specs.Ordering.{int_eq}
use Rattle.run_records.specs.declared.Reason.{Reason}
use Rattle.run_records.specs.declared.Reason.TheVariants.{Implementation}
use Rattle.c_ast.specs.declared.Target.{Target}
use Rattle.c_ast.specs.declared.Arith.{Arith}
use Rattle.c_ast.specs.declared.CBase.{CBase}
use Rattle.c_ast.specs.declared.CKind.{CKind}
use Rattle.c_ast.specs.declared.CKind.TheVariants.{Scalar, Arith as Computed}
use Rattle.c_ast.specs.declared.CType.{CType}
use Rattle.c_ast.specs.declared.CType.TheVariants.{Void, Value, Pointer}
use Rattle.c_ast.specs.declared.Suffix.{Suffix}
use Rattle.c_ast.specs.Targets.{TargetTable, table_of}
use Rattle.c_ast.specs.Conversions.{convert_in, constant_type}
use Rattle.c_ast.specs.StaticTypes.{ValueType, Arithmetic, PointerTo, same_base}

-- Why something has no meaning: C99 gives it none, for a reason; or it is stuck, since no rule of this meaning speaks of it. Stuck is
-- what no unit comes to whose expressions, statements and calls are typed.
pub data Trouble : Type 0 where
  Undefined : Reason → Trouble
  Stuck : Trouble

-- ---- values

-- where a pointer points to: an object, and an offset in it
pub record Address : Type 0 where
  pub object : ℕ
  pub offset : ℕ

-- a number with its type, or a pointer with its flag and base
pub data CValue : Type 0 where
  Num : CKind → ℤ → CValue
  Ptr : (constant : Bool) → CBase → Address → CValue

abbrev pub held_type : CValue → ValueType
held_type (Num kind v) = Arithmetic kind
held_type (Ptr constant base to) = PointerTo constant base

-- whether a number is other than 0, as `if`, `?:`, `!`, `&&` and `||` ask (6.8.4.1); of pointers no form of the subset asks it
abbrev pub is_true : CValue → Result Bool Trouble
is_true (Num kind v) = Ok (not (int_eq v (pos 0)))
is_true (Ptr constant base to) = Err Stuck

-- what follows from a value, where there is one
abbrev pub on_ok : {A B E : Type 0} → Result A E → (A → Result B E) → Result B E
on_ok (Ok a) next = next a
on_ok (Err e) next = Err e

-- ---- conversions

abbrev pub typed : CKind → Option ℤ → Result CValue Trouble
typed kind None = Err (Undefined Implementation)
typed kind (Some v) = Ok (Num kind v)

-- a number converted to a type
abbrev pub as_kind : TargetTable → CKind → CValue → Result CValue Trouble
as_kind t to (Num kind v) = typed to (convert_in t to v)
as_kind t to (Ptr constant base a) = Err Stuck

-- a pointer given where one to this base is wanted: the base stays, and `const` may come (6.5.16.1)
abbrev pub as_pointer : (constant : Bool) → CBase → CValue → Result CValue Trouble
as_pointer constant base (Num kind v) = Err Stuck
as_pointer constant base (Ptr from_constant from to) = if same_base from base && (not from_constant || constant) then Ok (Ptr constant base to) else Err Stuck

-- a value converted to a type as by assignment (6.5.16.1)
abbrev pub as_assigned : Target → CType → CValue → Result CValue Trouble
as_assigned t (Value s) v = as_kind (table_of t) (Scalar s) v
as_assigned t Void v = Err Stuck
as_assigned t (Pointer constant base) v = as_pointer constant base v

-- the values of arguments converted to the types of the parameters, as many as there are (6.5.2.2)
abbrev pub as_arguments : Target → List CType → List CValue → Result (List CValue) Trouble
as_arguments t [] [] = Ok []
as_arguments t [] (v ∷ vs) = Err Stuck
as_arguments t (p ∷ ps) [] = Err Stuck
as_arguments t (p ∷ ps) (v ∷ vs) = on_ok (as_assigned t p v) (λ a. on_ok (as_arguments t ps vs) (λ rest. Ok (a ∷ rest)))

-- ---- constants

-- the value of a constant; one without a type has none
abbrev pub of_type : Option Arith → ℕ → Result CValue Trouble
of_type None v = Err Stuck
of_type (Some a) v = Ok (Num (Computed a) (pos v))

abbrev pub constant_value : Target → Suffix → ℕ → Result CValue Trouble
constant_value t suffix v = of_type (constant_type t suffix v) v
