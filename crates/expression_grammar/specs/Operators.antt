-- The operators by their marks, and how tightly each binds.
use Rattle.std.specs.Prelude.{ℕ, ◌==◌, Bool, false, nat_lt, if◌then◌else◌, Option, Some, None, is_some}
use Rattle.iv_words.specs.declared.Span.{Span}
use Rattle.ivory_lexer.specs.declared.Token.{Token}
use Rattle.ivory_lexer.specs.declared.TokenKind.{TokenKind}
use Rattle.ivory_lexer.specs.declared.TokenKind.TheVariants as kind
use Rattle.ivory_lexer.specs.declared.Mark.{Mark}
use Rattle.ivory_lexer.specs.declared.Mark.TheVariants as mark
use Rattle.ivory_tree.specs.declared.PrefixOp.{PrefixOp}
use Rattle.ivory_tree.specs.declared.PrefixOp.TheVariants as prefix
use Rattle.ivory_tree.specs.declared.BinOp.{BinOp}
use Rattle.ivory_tree.specs.declared.BinOp.TheVariants as op

-- ---- between two operands

abbrev pub binary_of_mark : Mark → Option BinOp
binary_of_mark mark.PipePipe = Some op.OrElse
binary_of_mark mark.AmpAmp = Some op.AndAlso
binary_of_mark mark.Pipe = Some op.Or
binary_of_mark mark.Caret = Some op.Xor
binary_of_mark mark.Amp = Some op.And
binary_of_mark mark.EqualEqual = Some op.Eq
binary_of_mark mark.BangEqual = Some op.Ne
binary_of_mark mark.Less = Some op.Lt
binary_of_mark mark.LessEqual = Some op.Le
binary_of_mark mark.Greater = Some op.Gt
binary_of_mark mark.GreaterEqual = Some op.Ge
binary_of_mark mark.Shl = Some op.Shl
binary_of_mark mark.Shr = Some op.Shr
binary_of_mark mark.Plus = Some op.Add
binary_of_mark mark.Minus = Some op.Sub
binary_of_mark mark.PlusPercent = Some op.WrapAdd
binary_of_mark mark.MinusPercent = Some op.WrapSub
binary_of_mark mark.Star = Some op.Mul
binary_of_mark mark.Slash = Some op.Div
binary_of_mark mark.Percent = Some op.Rem
binary_of_mark mark.StarPercent = Some op.WrapMul
binary_of_mark _ = None

abbrev pub binary_of : TokenKind → Option BinOp
binary_of (kind.Mark m) = binary_of_mark m
binary_of _ = None

-- from the tightest: `* / % *%`; `+ - +% -%`; `<< >>`; `< <= > >=`; `== !=`; `&`; `^`; `|`; `&&`; `||`
abbrev pub looseness : BinOp → ℕ
looseness op.Mul = 0
looseness op.Div = 0
looseness op.Rem = 0
looseness op.WrapMul = 0
looseness op.Add = 1
looseness op.Sub = 1
looseness op.WrapAdd = 1
looseness op.WrapSub = 1
looseness op.Shl = 2
looseness op.Shr = 2
looseness op.Lt = 3
looseness op.Le = 3
looseness op.Gt = 3
looseness op.Ge = 3
looseness op.Eq = 4
looseness op.Ne = 4
looseness op.And = 5
looseness op.Xor = 6
looseness op.Or = 7
looseness op.AndAlso = 8
looseness op.OrElse = 9

-- an operator of this level
abbrev pub of_level : ℕ → Option BinOp → Option BinOp
of_level n None = None
of_level n (Some o) = if looseness o == n then Some o else None

abbrev pub with_place : {A : Type 0} → Option A → Span → Option (A × Span)
with_place None s = None
with_place (Some o) s = Some (o, s)

-- with its place
abbrev pub operator : ℕ → Token → Option (BinOp × Span)
operator n t = with_place (of_level n (binary_of t.kind)) t.span

abbrev pub is_operator : ℕ → Token → Bool
is_operator n t = is_some (operator n t)

-- an operator of a level below this one
abbrev pub below_level : ℕ → Option BinOp → Bool
below_level n None = false
below_level n (Some o) = nat_lt (looseness o) n

abbrev pub binds_below : ℕ → Token → Bool
binds_below n t = below_level n (binary_of t.kind)

-- ---- before an operand

-- all but `-`, which may be a number's sign
abbrev pub plain_prefix_of : TokenKind → Option PrefixOp
plain_prefix_of (kind.Mark mark.Tilde) = Some prefix.Flip
plain_prefix_of (kind.Mark mark.Bang) = Some prefix.Not
plain_prefix_of (kind.Mark mark.Star) = Some prefix.Deref
plain_prefix_of _ = None

abbrev pub plain_prefix : Token → Option PrefixOp
plain_prefix t = plain_prefix_of t.kind

abbrev pub is_plain_prefix : Token → Bool
is_plain_prefix t = is_some (plain_prefix t)
