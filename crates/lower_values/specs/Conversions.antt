-- Conversions and bit data in C. A conversion without a check is its operand, which is converted where it is taken. One with a check
-- tests the end of the range beyond which a value of the operand's type may lie, or both ends.
use Rattle.std.specs.Prelude.{ℕ, ◌*◌, ◌-◌, ◌^◌, ℤ, pos, ◌-ℤ◌, int_lt, Bool, true, false, if◌then◌else◌, nat_eq, nat_le, [], Option, Some, None}
use Rattle.iv_words.specs.Kinds.{width, is_signed, least, greatest}
use Rattle.iv_words.specs.declared.IntKind.{IntKind}
use Rattle.bit_data.specs.declared.BitLayout.{BitLayout}
use Rattle.bit_data.specs.declared.FieldBits.{FieldBits}
use Rattle.bit_data.specs.Fields.{field_at}
use Rattle.area_types.specs.Syntax.{ValueType, Int, Ix}
use Rattle.core_tree.specs.Syntax.{Label}
use Rattle.c_ast.specs.declared.Suffix.TheVariants.{Plain, U}
use Rattle.c_ast.specs.declared.CScalar.TheVariants as scalar
use Rattle.c_ast.specs.declared.CBinary.TheVariants.{Add, Rem, And, Or, Shl, Shr, Lt, Le, Ge, AndAlso}
use Rattle.c_ast.specs.Syntax.{Expr, Number, Binary, Cond}
use Rattle.lower_types.specs.Constants.{number_for}
use Rattle.core_meaning.specs.Answers.{layout_of}
use Rattle.overflow_checks.specs.Parts.{operand_of, cast_to}
use Rattle.lower_values.specs.Frames.{Frame, kind_in, type_in}
use Rattle.lower_values.specs.Pieces.{Piece, Same, Near, Operands, once, taken, both}
use Rattle.lower_values.specs.Tests.{tests, has_checks}
use Rattle.lower_values.specs.Operators.{with_tests, operand}

-- ---- ranges

-- the least and the greatest number of a type
abbrev pub lowest : Option IntKind → ValueType → ℤ
lowest (Some kind) (Int k) = least kind
lowest _ ty = pos 0

abbrev pub highest : Option IntKind → ValueType → ℤ
highest kind (Ix n) = pos n -ℤ pos 1
highest None ty = pos 1
highest (Some kind) ty = greatest kind

-- the value is not below or not above an end, where it may be
abbrev pub joined : (has_less has_more : Bool) → (low high : Expr) → Expr
joined true true low high = Binary AndAlso low high
joined true false low high = low
joined false true low high = high
joined false false low high = Number 1 Plain

abbrev pub is_within : (from_low from_high low high : ℤ) → Expr → Expr
is_within from_low from_high low high v =
    joined (int_lt from_low low) (int_lt high from_high) (Binary Ge v (number_for low)) (Binary Le v (number_for high))

abbrev pub range_guard : Frame → (from to : ValueType) → Expr → Expr
range_guard f from to v =
    is_within (lowest (kind_in f from) from) (highest (kind_in f from) from) (lowest (kind_in f to) to) (highest (kind_in f to) to) v

-- ---- conversions

-- a constant as a value of its type
abbrev pub valued : Option IntKind → Expr → Expr
valued None e = e
valued (Some kind) e = operand_of (width kind) (is_signed kind) e

-- `T(e)` and `toix(N, e)`
abbrev pub converted_from : Frame → Label → ValueType → Piece → Piece
converted_from f l from p =
    let v = valued (kind_in f from) p.value in
    record (with_tests p.before (tests f (λ which. range_guard f from l.ty v) (λ which. false) l.checks) v p.next) { standing = Same }

abbrev pub converted : Frame → Label → ValueType → Piece → Piece
converted f l from p = converted_from f l from (operand f l from p)

abbrev pub length_of : ValueType → ℕ
length_of (Ix n) = n
length_of _ = 1

-- the remainder that is not negative
abbrev pub remainder : (signed : Bool) → Expr → Expr → Expr
remainder false v n = Binary Rem v n
remainder true v n =
    let r = Binary Rem v n in
    Cond (Binary Lt r (Number 0 Plain)) (Binary Add r n) r

abbrev pub is_signed_type : Option IntKind → Bool
is_signed_type None = false
is_signed_type (Some kind) = is_signed kind

-- `wrapix(N, e)`
abbrev pub wrapped : Frame → ValueType → ValueType → Piece → Piece
wrapped f to from p =
    let q = taken (is_signed_type (kind_in f from)) (type_in f from) p in
    record q { value = remainder (is_signed_type (kind_in f from)) (valued (kind_in f from) q.value) (Number (length_of to) Plain); owed = true; standing = Same }

-- ---- bit data

-- `bits(B, e)` and `raw(e)` keep the number and the C type
abbrev pub kept : Frame → ValueType → Piece → Piece
kept f from p = record (once (type_in f from) p) { owed = true; standing = Same }

-- the greatest number of so many bits
abbrev pub mask : ℕ → ℕ
mask bits = 2 ^ bits - 1

abbrev pub unsigned : ℕ → Expr
unsigned n = Number n U

abbrev pub shifted_down : ℕ → Expr → Expr
shifted_down low e = if nat_eq low 0 then e else Binary Shr e (Number low Plain)

-- `e.f`
abbrev pub field_of : FieldBits → Expr → Expr
field_of b word = Binary And (shifted_down b.low word) (unsigned (mask b.width))

abbrev pub in_layout : Option BitLayout → ℕ → (FieldBits → Expr) → Expr
in_layout None field make = Number 0 Plain
in_layout (Some layout) field make = make (field_at layout field)

abbrev pub bit_field : Frame → ValueType → ℕ → Piece → Piece
bit_field f from field p =
    let q = once (type_in f from) p in
    record q { value = in_layout (layout_of f.core from) field (λ b. field_of b (valued (kind_in f from) q.value)); owed = true; standing = Same }

-- the word without a field
abbrev pub without : (word_bits : ℕ) → FieldBits → Expr → Expr
without bits b word = Binary And word (unsigned (mask bits - mask b.width * 2 ^ b.low))

-- a number in a field's place: of a constant it is a constant, 0 where the check fails always
abbrev pub placed : IntKind → FieldBits → Expr → Expr
placed word b (Number n suffix) = unsigned (if nat_le n (mask b.width) then n * 2 ^ b.low else 0)
placed word b x = if nat_eq b.low 0 then x else Binary Shl (cast_to word x) (Number b.low Plain)

abbrev pub put_in : Option IntKind → FieldBits → (word x : Expr) → Expr
put_in None b e x = e
put_in (Some word) b e x = Binary Or (without (width word) b (valued (Some word) e)) (placed word b x)

abbrev pub set_guard : FieldBits → Expr → Expr
set_guard b x = Binary Le x (unsigned (mask b.width))

-- a constant that fits needs no test
abbrev pub set_settled : BitLayout → ℕ → Expr → Bool
set_settled layout field (Number n suffix) = nat_le n (mask (field_at layout field).width)
set_settled layout field x = false

abbrev pub set_in : Frame → Label → Option BitLayout → Option IntKind → ℕ → Operands → Piece
set_in f l None word field at = with_tests at.before [] at.left at.next
set_in f l (Some layout) word field at =
    let b = field_at layout field in
    with_tests at.before (tests f (λ which. set_guard b at.right) (λ which. set_settled layout field at.right) l.checks) (put_in word b at.left at.right) at.next

-- `set(e, f, x)`: the word stands once, and is taken before the value is made, which has a type of its own
abbrev pub field_set : Frame → Label → (of_word of_value : ValueType) → ℕ → (word x : Piece) → Piece
field_set f l of_word of_value field p q = set_in f l (layout_of f.core of_word) (kind_in f of_word) field (both p (operand f l of_value q))
