-- The guards of the unsigned kinds, over operands of the kind's type.
use Rattle.std.specs.Prelude.{ℕ, false}
use Rattle.c_ast.specs.declared.CBinary.TheVariants.{Add, Div, Eq, Ne, Lt, Le, Ge, OrElse}
use Rattle.c_ast.specs.Syntax.{Expr, Binary}
use Rattle.iv_words.specs.Kinds.{kind_at}
use Rattle.overflow_checks.specs.Parts.{plain, greatest_constant, cast_to, double_product}

abbrev pub wrapped_sum : ℕ → Expr → Expr → Expr
wrapped_sum bits a b = cast_to (kind_at bits false) (Binary Add a b)

-- a sum that wraps is below either operand
abbrev pub sum_fits : ℕ → Expr → Expr → Expr
sum_fits bits a b = Binary Ge (wrapped_sum bits a b) a

abbrev pub difference_fits : Expr → Expr → Expr
difference_fits a b = Binary Le b a

abbrev pub narrow_product_fits : ℕ → Expr → Expr → Expr
narrow_product_fits bits a b = Binary Le (double_product bits false a b) (greatest_constant bits false)

abbrev pub greatest_factor : ℕ → Expr → Expr
greatest_factor bits b = Binary Div (greatest_constant bits false) b

-- where no kind has twice as many bits: the product with another number than 0 does not wrap
abbrev pub does_not_wrap : ℕ → Expr → Expr → Expr
does_not_wrap bits a b = Binary Le a (greatest_factor bits b)

abbrev pub wide_product_fits : ℕ → Expr → Expr → Expr
wide_product_fits bits a b = Binary OrElse (Binary Eq b (plain 0)) (does_not_wrap bits a b)

-- of the signed kinds too
abbrev pub divisor_is_some : Expr → Expr
divisor_is_some b = Binary Ne b (plain 0)

abbrev pub shift_fits : ℕ → Expr → Expr
shift_fits bits b = Binary Lt b (plain bits)
