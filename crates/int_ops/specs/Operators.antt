-- What each operator on whole numbers answers: one definition for all kinds, over the width in bits, the sign, and numbers
-- without a bound. The arithmetic is that of C99 6.5.3.3 and 6.5.5 to 6.5.12, but a number that the kind does not have stops
-- the signed and the unsigned kinds alike, and so do a quotient by 0 and a shift by the width, which C99 leaves undefined.
use Rattle.std.specs.Prelude.{ℕ, ◌≡◌, ◌⊎◌, ℤ, pos, ◌+ℤ◌, ◌-ℤ◌, ◌*ℤ◌, neg_ℤ, unsigned_abs, int_le, int_lt, int_div, bit_and, bit_or, bit_xor, Bool, true, false, not, if◌then◌else◌, Result, Ok, Err}
use Rattle.std.specs.Int.{int_div_euclid}
use Rattle.std.specs.Ordering.{int_eq}
use Rattle.iv_words.specs.Bits.{modulo, two_to}
use Rattle.iv_words.specs.Kinds.{in_range_of, width, is_signed, greatest_of}
use Rattle.iv_words.specs.declared.kind.IntKind.{IntKind}
use Rattle.int_ops.specs.declared.operator.Op.{Op}
use Rattle.int_ops.specs.declared.operator.Op.TheVariants.{Add, Sub, Mul, Div, Rem, Shl, Shr, And, Or, Xor, Neg, Not, WrapAdd, WrapSub, WrapMul, Eq, Ne, Lt, Le, Gt, Ge}
use Rattle.int_ops.specs.declared.operator.Stop.{Stop}
use Rattle.int_ops.specs.declared.operator.Stop.TheVariants.{Overflow, DivZero, Shift}

-- the widths that kinds have
abbrev pub IsKindWidth : ℕ → Type 0
IsKindWidth bits = (bits ≡ 8) ⊎ (bits ≡ 16) ⊎ (bits ≡ 32) ⊎ (bits ≡ 64)

-- ---- which kinds have which operators

-- the signed kinds have no wrapping operators, shifts and bitwise operators, and the unsigned ones no prefix `-`
abbrev pub is_allowed_at : Op → Bool → Bool
is_allowed_at Shl signed = not signed
is_allowed_at Shr signed = not signed
is_allowed_at And signed = not signed
is_allowed_at Or signed = not signed
is_allowed_at Xor signed = not signed
is_allowed_at Neg signed = signed
is_allowed_at Not signed = not signed
is_allowed_at WrapAdd signed = not signed
is_allowed_at WrapSub signed = not signed
is_allowed_at WrapMul signed = not signed
is_allowed_at _ signed = true

abbrev pub is_allowed : Op → IntKind → Bool
is_allowed op kind = is_allowed_at op (is_signed kind)

-- the prefix operators leave their right operand aside
abbrev pub is_binary : Op → Bool
is_binary Neg = false
is_binary Not = false
is_binary _ = true

-- ---- what they answer

-- the number itself, where it is in range
abbrev pub fitted : ℕ → Bool → ℤ → Result ℤ Stop
fitted bits signed v = if in_range_of bits signed v then Ok v else Err Overflow

-- the quotient rounded toward zero
abbrev pub quotient : ℕ → Bool → ℤ → ℤ → Result ℤ Stop
quotient bits signed a b = if int_eq b (pos 0) then Err DivZero else fitted bits signed (int_div a b)

-- a - (a / b) * b, where there is a quotient
abbrev pub remainder : ℕ → Bool → ℤ → ℤ → Result ℤ Stop
remainder bits signed a b =
    if int_eq b (pos 0) then Err DivZero
    else (if in_range_of bits signed (int_div a b) then Ok (a -ℤ int_div a b *ℤ b) else Err Overflow)

-- a shift's answer, where it is by less than the width
abbrev pub shifted : ℕ → ℤ → ℤ → Result ℤ Stop
shifted bits b v = if int_lt b (pos bits) then Ok v else Err Shift

-- an operation on the bits of two numbers from 0
abbrev pub bitwise : (ℕ → ℕ → ℕ) → ℤ → ℤ → ℤ
bitwise f a b = pos (f (unsigned_abs a) (unsigned_abs b))

-- a comparison's answer
abbrev pub truth : Bool → ℤ
truth holds = if holds then pos 1 else pos 0

abbrev pub exact_at : Op → ℕ → Bool → ℤ → ℤ → Result ℤ Stop
exact_at Add bits signed a b = fitted bits signed (a +ℤ b)
exact_at Sub bits signed a b = fitted bits signed (a -ℤ b)
exact_at Mul bits signed a b = fitted bits signed (a *ℤ b)
exact_at Div bits signed a b = quotient bits signed a b
exact_at Rem bits signed a b = remainder bits signed a b
exact_at Shl bits signed a b = shifted bits b (modulo bits (a *ℤ two_to b))
exact_at Shr bits signed a b = shifted bits b (int_div_euclid a (two_to b))
exact_at And bits signed a b = Ok (bitwise bit_and a b)
exact_at Or bits signed a b = Ok (bitwise bit_or a b)
exact_at Xor bits signed a b = Ok (bitwise bit_xor a b)
exact_at Neg bits signed a b = fitted bits signed (neg_ℤ a)
exact_at Not bits signed a b = Ok (greatest_of bits signed -ℤ a)
exact_at WrapAdd bits signed a b = Ok (modulo bits (a +ℤ b))
exact_at WrapSub bits signed a b = Ok (modulo bits (a -ℤ b))
exact_at WrapMul bits signed a b = Ok (modulo bits (a *ℤ b))
exact_at Eq bits signed a b = Ok (truth (int_eq a b))
exact_at Ne bits signed a b = Ok (truth (not (int_eq a b)))
exact_at Lt bits signed a b = Ok (truth (int_lt a b))
exact_at Le bits signed a b = Ok (truth (int_le a b))
exact_at Gt bits signed a b = Ok (truth (int_lt b a))
exact_at Ge bits signed a b = Ok (truth (int_le b a))

-- what the operator answers on the kind
abbrev pub exact : Op → IntKind → ℤ → ℤ → Result ℤ Stop
exact op kind a b = exact_at op (width kind) (is_signed kind) a b
