-- What each binary operator does with the values of its operands.
use Rattle.std.specs.Prelude.{ℕ, ℤ, pos, ◌||◌, int_lt, int_le, bit_and, bit_or, bit_xor, Bool, true, false, not, if◌then◌else◌, Result, Ok}
use Rattle.std.specs.Ordering.{int_eq}
use Rattle.c_ast.specs.declared.Arith.{Arith}
use Rattle.c_ast.specs.Targets.{TargetTable, arith_bits, arith_signed}
use Rattle.c_ast.specs.declared.CBinary.{CBinary}
use Rattle.c_ast.specs.declared.CBinary.TheVariants as op
use Rattle.c_meaning.specs.Values.{CValue, Trouble, is_true, on_ok}
use Rattle.c_meaning.specs.Operators as operators
use Rattle.c_meaning.specs.Operators.{Operator, usual, compared, shifted, tested, truth, operand, with_number, computed}
use Rattle.c_operators.specs.declared.classes.Usual.{Usual}
use Rattle.c_operators.specs.declared.classes.Usual.TheVariants as usually
use Rattle.c_operators.specs.declared.classes.Comparison.{Comparison}
use Rattle.c_operators.specs.declared.classes.Comparison.TheVariants as compares
use Rattle.c_operators.specs.declared.classes.Direction.{Direction}
use Rattle.c_operators.specs.declared.classes.Direction.TheVariants as to
use Rattle.c_operators.specs.declared.classes.Class.{Class}
use Rattle.c_operators.specs.declared.classes.Class.TheVariants.{Computes, Compares, Shifts, AsksBoth, AsksEither}

abbrev pub class_of : CBinary → Class
class_of op.Add = Computes usually.Add
class_of op.Sub = Computes usually.Sub
class_of op.Mul = Computes usually.Mul
class_of op.Div = Computes usually.Div
class_of op.Rem = Computes usually.Rem
class_of op.And = Computes usually.And
class_of op.Or = Computes usually.Or
class_of op.Xor = Computes usually.Xor
class_of op.Shl = Shifts to.Left
class_of op.Shr = Shifts to.Right
class_of op.Eq = Compares compares.Eq
class_of op.Ne = Compares compares.Ne
class_of op.Lt = Compares compares.Lt
class_of op.Le = Compares compares.Le
class_of op.Gt = Compares compares.Gt
class_of op.Ge = Compares compares.Ge
class_of op.AndAlso = AsksBoth
class_of op.OrElse = AsksEither

-- on numbers of the common type
abbrev pub operator_of : Usual → Operator
operator_of usually.Add = operators.sum
operator_of usually.Sub = operators.difference
operator_of usually.Mul = operators.product
operator_of usually.Div = operators.quotient
operator_of usually.Rem = operators.remainder
operator_of usually.And = operators.bitwise bit_and
operator_of usually.Or = operators.bitwise bit_or
operator_of usually.Xor = operators.bitwise bit_xor

abbrev pub comparison_of : Comparison → ℤ → ℤ → Bool
comparison_of compares.Eq = int_eq
comparison_of compares.Ne = λ x y. not (int_eq x y)
comparison_of compares.Lt = int_lt
comparison_of compares.Le = int_le
comparison_of compares.Gt = λ x y. int_lt y x
comparison_of compares.Ge = λ x y. int_le y x

abbrev pub shift_of : Direction → Operator
shift_of to.Left = operators.shifted_left
shift_of to.Right = operators.shifted_right

-- no amount by which a number of so many bits can be shifted
abbrev pub is_out_of_width : ℕ → ℤ → Bool
is_out_of_width bits b = int_lt b (pos 0) || int_le (pos bits) b

-- both operands in a type in which C computes, and what is done with them there
abbrev pub in_type : {A : Type 0} → TargetTable → Arith → (Arith → ℤ → ℤ → Result A Trouble) → ℤ → ℤ → Result A Trouble
in_type t c next a b = with_number (operand t c a) (λ x. with_number (operand t c b) (λ y. next c x y))

abbrev pub computing : TargetTable → Usual → Arith → ℤ → ℤ → Result CValue Trouble
computing t op c x y = computed c (operator_of op (arith_bits t c) (arith_signed c) x y)

abbrev pub comparing : Comparison → Arith → ℤ → ℤ → Result CValue Trouble
comparing op c x y = Ok (truth (comparison_of op x y))

-- both are true, or one of them is: the second one is asked only where the first does not decide
abbrev pub both_tested : CValue → CValue → Result CValue Trouble
both_tested a b = on_ok (is_true a) (λ holds. if holds then tested b else Ok (truth false))

abbrev pub either_tested : CValue → CValue → Result CValue Trouble
either_tested a b = on_ok (is_true a) (λ holds. if holds then Ok (truth true) else tested b)

-- on the values of both operands
abbrev pub by_class : Class → TargetTable → CValue → CValue → Result CValue Trouble
by_class (Computes f) t a b = usual t (operator_of f) a b
by_class (Compares f) t a b = compared t (comparison_of f) a b
by_class (Shifts direction) t a b = shifted t (shift_of direction) a b
by_class AsksBoth t a b = both_tested a b
by_class AsksEither t a b = either_tested a b
