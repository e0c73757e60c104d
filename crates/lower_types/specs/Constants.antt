-- Numbers in C. A number that is not negative is decimal, below 2 ^ 63 without a suffix and else with `u`; a negative one is the `-` of
-- a constant, and the least of all, whose opposite no signed type has, one less than the next.
use Rattle.std.specs.Prelude.{ℕ, suc, ◌-◌, ◌^◌, ℤ, pos, negsuc, nat_lt, if◌then◌else◌}
use Rattle.c_ast.specs.declared.Suffix.TheVariants.{Plain, U}
use Rattle.c_ast.specs.declared.CUnary.TheVariants.{Neg}
use Rattle.c_ast.specs.declared.CBinary.TheVariants.{Sub}
use Rattle.c_ast.specs.Syntax.{Expr, Number, Unary, Binary}

-- the first number that no signed type has
abbrev pub signed_limit : ℕ
signed_limit = 2 ^ 63

abbrev pub constant : ℕ → Expr
constant n = if nat_lt n signed_limit then Number n Plain else Number n U

-- `-n`
abbrev pub negative : ℕ → Expr
negative n = if nat_lt n signed_limit then Unary Neg (Number n Plain) else Binary Sub (Unary Neg (Number (n - 1) Plain)) (Number 1 Plain)

abbrev pub number_for : ℤ → Expr
number_for (pos n) = constant n
number_for (negsuc n) = negative (suc n)
