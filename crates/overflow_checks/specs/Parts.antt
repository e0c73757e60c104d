-- Of what the expressions are put together: kinds, constants, casts and operands. A tool of the proof; no contract for others cites it.
use Rattle.std.specs.Prelude.{ℕ, ◌-◌, ◌*◌, ◌^◌, Bool, true, false}
use Rattle.iv_words.specs.Kinds.{kind_at}
use Rattle.iv_words.specs.declared.IntKind.{IntKind}
use Rattle.c_ast.specs.declared.CScalar.TheVariants.{Int as Exact}
use Rattle.c_ast.specs.declared.CType.TheVariants.{Value}
use Rattle.c_ast.specs.declared.Suffix.TheVariants.{Plain, U}
use Rattle.c_ast.specs.declared.CUnary.TheVariants.{Neg}
use Rattle.c_ast.specs.declared.CBinary.TheVariants.{Sub, Mul}
use Rattle.c_ast.specs.Syntax.{Expr, Number, Read, Address, Unary, Binary, Cast, Cond}

abbrev pub plain : ℕ → Expr
plain n = Number n Plain

abbrev pub unsigned : ℕ → Expr
unsigned n = Number n U

-- the greatest number of so many bits, and the least of a signed kind, which no constant is
abbrev pub greatest_constant : ℕ → Bool → Expr
greatest_constant bits false = unsigned (2 ^ bits - 1)
greatest_constant bits true = plain (2 ^ (bits - 1) - 1)

abbrev pub least_constant : ℕ → Expr
least_constant bits = Binary Sub (Unary Neg (greatest_constant bits true)) (plain 1)

abbrev pub cast_to : IntKind → Expr → Expr
cast_to kind e = Cast (Value (Exact kind)) e

-- an operand as a value of the kind's type
abbrev pub operand_of : ℕ → Bool → Expr → Expr
operand_of bits signed (Number n suffix) = cast_to (kind_at bits signed) (Number n suffix)
operand_of bits signed (Read place) = Read place
operand_of bits signed (Address place) = Address place
operand_of bits signed (Unary op e) = Unary op e
operand_of bits signed (Binary op a b) = Binary op a b
operand_of bits signed (Cast to e) = Cast to e
operand_of bits signed (Cond c a b) = Cond c a b

abbrev pub is_constant : Expr → Bool
is_constant (Number n suffix) = true
is_constant (Read place) = false
is_constant (Address place) = false
is_constant (Unary op e) = false
is_constant (Binary op a b) = false
is_constant (Cast to e) = false
is_constant (Cond c a b) = false

-- the product in the kind of twice as many bits, which has it
abbrev pub double_product : ℕ → Bool → Expr → Expr → Expr
double_product bits signed a b = Binary Mul (cast_to (kind_at (2 * bits) signed) a) (cast_to (kind_at (2 * bits) signed) b)
