-- Which checks a constant right operand settles: a divisor that is not 0, an amount below the width, and a divisor that is not -1.
use Rattle.std.specs.Prelude.{ℕ, Bool, true, false, not, nat_eq, nat_lt}
use Rattle.iv_words.specs.declared.IntKind.{IntKind}
use Rattle.iv_words.specs.Kinds.{width}
use Rattle.int_ops.specs.declared.Op.{Op}
use Rattle.int_ops.specs.declared.Op.TheVariants.{Div, Rem}
use Rattle.core_tree.specs.declared.SiteKind.{SiteKind}
use Rattle.core_tree.specs.declared.SiteKind.TheVariants.{Overflow, DivZero, Shift}
use Rattle.c_ast.specs.Syntax.{Expr, Number}

abbrev pub is_division : Op → Bool
is_division Div = true
is_division Rem = true
is_division _ = false

abbrev pub settled_by : ℕ → IntKind → Op → SiteKind → Bool
settled_by n kind op DivZero = not (nat_eq n 0)
settled_by n kind op Shift = nat_lt n (width kind)
settled_by n kind op Overflow = is_division op
settled_by n kind op _ = false

abbrev pub settled : IntKind → Op → (right : Expr) → SiteKind → Bool
settled kind op (Number n suffix) which = settled_by n kind op which
settled kind op _ which = false
