-- The guards of the signed kinds, over operands of the kind's type.
use Rattle.std.specs.Prelude.{ℕ, ◌-◌, ◌^◌, true, false}
use Rattle.c_ast.specs.declared.CUnary.TheVariants.{Neg}
use Rattle.c_ast.specs.declared.CBinary.TheVariants.{Add, Sub, Mul, And, Xor, Shr, Eq, Ne, Lt, Le, Ge, AndAlso, OrElse}
use Rattle.c_ast.specs.Syntax.{Expr, Unary, Binary, Cond}
use Rattle.iv_words.specs.Kinds.{kind_at}
use Rattle.overflow_checks.specs.Parts.{plain, unsigned, greatest_constant, least_constant, cast_to, double_product}
use Rattle.overflow_checks.specs.UnsignedForms.{does_not_wrap}

-- the number is between the ends of so many bits
abbrev pub is_between_ends : ℕ → Expr → Expr
is_between_ends bits e = Binary AndAlso (Binary Ge e (least_constant bits)) (Binary Le e (greatest_constant bits true))

-- ---- sums and differences of a kind narrower than int, where int has them

abbrev pub narrow_sum_fits : ℕ → Expr → Expr → Expr
narrow_sum_fits bits a b = is_between_ends bits (Binary Add a b)

abbrev pub narrow_difference_fits : ℕ → Expr → Expr → Expr
narrow_difference_fits bits a b = is_between_ends bits (Binary Sub a b)

-- ---- of the other kinds: on the same bits without sign, where they wrap

abbrev pub unsigned_of : ℕ → Expr → Expr
unsigned_of bits e = cast_to (kind_at bits false) e

-- the bits in which they differ
abbrev pub differing : Expr → Expr → Expr
differing e f = Binary Xor e f

-- the highest bit of both together is not set
abbrev pub top_is_clear : ℕ → Expr → Expr → Expr
top_is_clear bits e f = Binary Lt (Binary And e f) (unsigned (2 ^ (bits - 1)))

-- a sum that does not fit has another sign than both operands
abbrev pub wide_sum_fits : ℕ → Expr → Expr → Expr
wide_sum_fits bits a b =
    let x = unsigned_of bits a in
    let y = unsigned_of bits b in
    let r = Binary Add x y in
    top_is_clear bits (differing x r) (differing y r)

-- a difference that does not fit is of operands of two signs, and has another sign than the left one
abbrev pub wide_difference_fits : ℕ → Expr → Expr → Expr
wide_difference_fits bits a b =
    let x = unsigned_of bits a in
    let y = unsigned_of bits b in
    top_is_clear bits (differing x y) (differing x (Binary Sub x y))

-- ---- products

abbrev pub narrow_signed_product_fits : ℕ → Expr → Expr → Expr
narrow_signed_product_fits bits a b = is_between_ends bits (double_product bits true a b)

abbrev pub is_negative : Expr → Expr
is_negative e = Binary Lt e (plain 0)

abbrev pub opposite : ℕ → Expr → Expr
opposite bits e = Binary Sub (plain 0) (unsigned_of bits e)

-- how far a number is from 0
abbrev pub magnitude : ℕ → Expr → Expr
magnitude bits e = Cond (is_negative e) (opposite bits e) (unsigned_of bits e)

abbrev pub unsigned_differing : ℕ → Expr → Expr → Expr
unsigned_differing bits a b = differing (unsigned_of bits a) (unsigned_of bits b)

-- 1 where the signs differ, and else 0
abbrev pub one_if_differing : ℕ → Expr → Expr → Expr
one_if_differing bits a b = Binary Shr (unsigned_differing bits a b) (plain (bits - 1))

-- the greatest magnitude of a product: one more where the signs differ
abbrev pub product_limit : ℕ → Expr → Expr → Expr
product_limit bits a b = Binary Add (unsigned (2 ^ (bits - 1) - 1)) (one_if_differing bits a b)

-- the product of two magnitudes, the second not 0, does not wrap, and is at most the limit
abbrev pub magnitudes_fit : ℕ → (m n limit : Expr) → Expr
magnitudes_fit bits m n limit = Binary AndAlso (does_not_wrap bits m n) (Binary Le (Binary Mul m n) limit)

abbrev pub nonzero_product_fits : ℕ → Expr → Expr → Expr
nonzero_product_fits bits a b = magnitudes_fit bits (magnitude bits a) (magnitude bits b) (product_limit bits a b)

-- where no kind has twice as many bits
abbrev pub wide_signed_product_fits : ℕ → Expr → Expr → Expr
wide_signed_product_fits bits a b = Binary OrElse (Binary Eq b (plain 0)) (nonzero_product_fits bits a b)

-- ---- opposites and quotients, which only the least number keeps from fitting

abbrev pub opposite_fits : ℕ → Expr → Expr
opposite_fits bits a = Binary Ge a (Unary Neg (greatest_constant bits true))

abbrev pub is_not_minus_one : Expr → Expr
is_not_minus_one b = Binary Ne b (Unary Neg (plain 1))

abbrev pub quotient_fits : ℕ → Expr → Expr → Expr
quotient_fits bits a b = Binary OrElse (is_not_minus_one b) (opposite_fits bits a)
