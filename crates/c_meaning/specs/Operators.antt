-- What the operators give on values (C99 6.5.3.3, 6.5.5 to 6.5.14), or the reason for which they give none. Signed numbers are in
-- two's complement (6.2.6.2). Where C99 leaves a result to the implementation, or a quotient has no place in its type, there is
-- none here.
use Rattle.std.specs.Prelude.{ℕ, ◌^◌, ◌-◌, ℤ, pos, ◌+ℤ◌, ◌-ℤ◌, ◌*ℤ◌, neg_ℤ, unsigned_abs, int_lt, int_le, int_div, nat_lt, bit_and, bit_or, bit_xor, Bool, true, false, not, ◌||◌, if◌then◌else◌, Option, Some, None, Result, Ok, Err}
use Rattle.std.specs.Int.{int_div_euclid}
use Rattle.std.specs.Ordering.{int_eq}
use Rattle.run_records.specs.declared.Reason.{Reason}
use Rattle.run_records.specs.declared.Reason.TheVariants.{SignedOverflow, DivZero, Shift, Implementation}
use Rattle.iv_words.specs.Kinds.{in_range_of, greatest_of}
use Rattle.c_ast.specs.declared.Arith.{Arith}
use Rattle.c_ast.specs.declared.Arith.TheVariants.{Int}
use Rattle.c_ast.specs.declared.CKind.TheVariants.{Arith as Computed}
use Rattle.c_ast.specs.declared.CUnary.{CUnary}
use Rattle.c_ast.specs.declared.CUnary.TheVariants.{Neg, Flip, Not}
use Rattle.c_ast.specs.declared.CBinary.{CBinary}
use Rattle.c_ast.specs.declared.CBinary.TheVariants.{Add, Sub, Mul, Div, Rem, And, Or, Xor, Shl, Shr, Eq, Ne, Lt, Le, Gt, Ge, AndAlso, OrElse}
use Rattle.c_ast.specs.Targets.{TargetTable, arith_bits, arith_signed, promoted, common_type}
use Rattle.iv_words.specs.Bits.{modulo, two_to}
use Rattle.c_ast.specs.Conversions.{converted}
use Rattle.c_meaning.specs.Values.{Trouble, Undefined, Stuck, CValue, Num, Ptr, is_true, on_ok}

-- ---- numbers in a type of so many bits, with or without sign

-- An operator on numbers of one type, which gives a number of that type.
abbrev pub Operator : Type 0
Operator = (bits : ℕ) (signed : Bool) (a b : ℤ) → Result ℤ Reason

-- the result v: modulo 2 ^ bits in an unsigned type (6.2.5), and only where it fits in a signed one (6.5)
abbrev pub fitted : ℕ → Bool → ℤ → Result ℤ Reason
fitted bits false v = Ok (modulo bits v)
fitted bits true v = if in_range_of bits true v then Ok v else Err SignedOverflow

-- sums and differences (6.5.6)
abbrev pub sum : Operator
sum bits signed a b = fitted bits signed (a +ℤ b)

abbrev pub difference : Operator
difference bits signed a b = fitted bits signed (a -ℤ b)

-- products, and quotients toward zero (6.5.5)
abbrev pub product : Operator
product bits signed a b = fitted bits signed (a *ℤ b)

abbrev pub quotient : Operator
quotient bits signed a b = if int_eq b (pos 0) then Err DivZero else fitted bits signed (int_div a b)

-- a - (a / b) * b, where there is a quotient
abbrev pub remainder : Operator
remainder bits signed a b = on_ok (quotient bits signed a b) (λ q. Ok (a -ℤ q *ℤ b))

-- the bits of a number, as a number from 0, and the number of a type that has these bits
abbrev pub bits_of : ℕ → ℤ → ℕ
bits_of bits v = unsigned_abs (modulo bits v)

abbrev pub number_of_bits : ℕ → Bool → ℕ → ℤ
number_of_bits bits false n = pos n
number_of_bits bits true n = if nat_lt n (2 ^ (bits - 1)) then pos n else pos n -ℤ pos (2 ^ bits)

-- bit by bit (6.5.10 to 6.5.12)
abbrev pub bitwise : (ℕ → ℕ → ℕ) → Operator
bitwise f bits signed a b = Ok (number_of_bits bits signed (f (bits_of bits a) (bits_of bits b)))

-- Shifts (6.5.7), by an amount from 0 to the width - 1. To the left: a * 2 ^ b; in a signed type a must not be negative.
abbrev pub shifted_left : Operator
shifted_left bits false a b = fitted bits false (a *ℤ two_to b)
shifted_left bits true a b = if int_lt a (pos 0) then Err SignedOverflow else fitted bits true (a *ℤ two_to b)

-- to the right: a / 2 ^ b, rounded down; of a negative number the implementation decides
abbrev pub shifted_right : Operator
shifted_right bits signed a b = if int_lt a (pos 0) then Err Implementation else Ok (int_div_euclid a (two_to b))

-- ---- values

-- what follows from a number, where there is one
abbrev pub with_number : {A : Type 0} → Result ℤ Reason → (ℤ → Result A Trouble) → Result A Trouble
with_number (Ok v) next = next v
with_number (Err reason) next = Err (Undefined reason)

-- a number as a value of the type
abbrev pub computed : Arith → Result ℤ Reason → Result CValue Trouble
computed c r = with_number r (λ v. Ok (Num (Computed c) v))

-- the int that comparisons and `!`, `&&` and `||` give
abbrev pub truth : Bool → CValue
truth holds = Num (Computed Int) (if holds then pos 1 else pos 0)

-- whether a value is true, as that int
abbrev pub tested : CValue → Result CValue Trouble
tested v = on_ok (is_true v) (λ holds. Ok (truth holds))

abbrev pub converted_or : Option ℤ → Result ℤ Reason
converted_or None = Err Implementation
converted_or (Some v) = Ok v

-- an operand, converted to the type in which C computes
abbrev pub operand : TargetTable → Arith → ℤ → Result ℤ Reason
operand t c v = converted_or (converted (arith_bits t c) (arith_signed c) v)

-- both operands in their common type, and what is done with them there; pointers are no operands
abbrev pub in_common : {A : Type 0} → TargetTable → (Arith → ℤ → ℤ → Result A Trouble) → CValue → CValue → Result A Trouble
in_common t next (Num k a) (Num l b) =
    with_number (operand t (common_type t k l) a) (λ x. with_number (operand t (common_type t k l) b) (λ y. next (common_type t k l) x y))
in_common t next (Num k a) (Ptr constant base to) = Err Stuck
in_common t next (Ptr constant base to) b = Err Stuck

-- an operator on its operands in their common type, which is the type of the result
abbrev pub usual : TargetTable → Operator → CValue → CValue → Result CValue Trouble
usual t f a b = in_common t (λ c x y. computed c (f (arith_bits t c) (arith_signed c) x y)) a b

-- a comparison of both operands in their common type (6.5.8, 6.5.9)
abbrev pub compared : TargetTable → (ℤ → ℤ → Bool) → CValue → CValue → Result CValue Trouble
compared t holds a b = in_common t (λ c x y. Ok (truth (holds x y))) a b

-- A shift: its operands are promoted each by itself, which keeps their values, and its type is that of the left one. The amount
-- comes before all else.
abbrev pub shifted_at : TargetTable → Operator → Arith → ℤ → ℤ → Result CValue Trouble
shifted_at t f c a b =
    if int_lt b (pos 0) || int_le (pos (arith_bits t c)) b then Err (Undefined Shift) else computed c (f (arith_bits t c) (arith_signed c) a b)

abbrev pub shifted : TargetTable → Operator → CValue → CValue → Result CValue Trouble
shifted t f (Num k a) (Num l b) = shifted_at t f (promoted t k) a b
shifted t f (Num k a) (Ptr constant base to) = Err Stuck
shifted t f (Ptr constant base to) b = Err Stuck

-- ---- the operators

-- `~` on a promoted operand: each bit is set where it was not
abbrev pub flipped : ℕ → Bool → ℤ → ℤ
flipped bits false v = greatest_of bits false -ℤ v
flipped bits true v = neg_ℤ v -ℤ pos 1

-- on the value of the operand (6.5.3.3)
abbrev pub unary : TargetTable → CUnary → CValue → Result CValue Trouble
unary t Neg (Num k v) = computed (promoted t k) (fitted (arith_bits t (promoted t k)) (arith_signed (promoted t k)) (neg_ℤ v))
unary t Flip (Num k v) = computed (promoted t k) (Ok (flipped (arith_bits t (promoted t k)) (arith_signed (promoted t k)) v))
unary t Neg (Ptr constant base to) = Err Stuck
unary t Flip (Ptr constant base to) = Err Stuck
unary t Not v = on_ok (is_true v) (λ holds. Ok (truth (not holds)))

-- On the value of the left operand, and what the right one comes to. `&&` and `||` look at the right one only where the left one
-- does not decide (6.5.13, 6.5.14).
abbrev pub binary : TargetTable → CBinary → CValue → Result CValue Trouble → Result CValue Trouble
binary t Add a b = on_ok b (usual t sum a)
binary t Sub a b = on_ok b (usual t difference a)
binary t Mul a b = on_ok b (usual t product a)
binary t Div a b = on_ok b (usual t quotient a)
binary t Rem a b = on_ok b (usual t remainder a)
binary t And a b = on_ok b (usual t (bitwise bit_and) a)
binary t Or a b = on_ok b (usual t (bitwise bit_or) a)
binary t Xor a b = on_ok b (usual t (bitwise bit_xor) a)
binary t Shl a b = on_ok b (shifted t shifted_left a)
binary t Shr a b = on_ok b (shifted t shifted_right a)
binary t Eq a b = on_ok b (compared t int_eq a)
binary t Ne a b = on_ok b (compared t (λ x y. not (int_eq x y)) a)
binary t Lt a b = on_ok b (compared t int_lt a)
binary t Le a b = on_ok b (compared t int_le a)
binary t Gt a b = on_ok b (compared t (λ x y. int_lt y x) a)
binary t Ge a b = on_ok b (compared t (λ x y. int_le y x) a)
binary t AndAlso a b = on_ok (is_true a) (λ holds. if holds then on_ok b tested else Ok (truth false))
binary t OrElse a b = on_ok (is_true a) (λ holds. if holds then Ok (truth true) else on_ok b tested)
