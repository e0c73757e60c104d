-- Chains and postfixes of the core: a whole one is marked, its prefixes are not. A left operand is a prefix of the same chain where it is a
-- chain of that level and begins at the same place, for the parentheses around an operand belong to the chain alone.
use Rattle.std.specs.Prelude.{ℕ, Bool, true, false, ◌&&◌, nat_eq}
use Rattle.iv_words.specs.declared.Span.{Span}
use Rattle.ivory_tree.specs.Syntax.{ExprSyntax, Literal, Truth, Outcome, Variable, Cast, ToIndex, WrapIndex, MakeBits, Raw, SetField, Prefix, Binary, Field, Element, Cond, Bare}
use Rattle.ivory_tree.specs.declared.expr.BinOp.{BinOp}
use Rattle.ivory_tree.specs.declared.expr.BinOp.TheVariants.{OrElse, AndAlso, Or, Xor, And, Eq, Ne, Lt, Le, Gt, Ge, Shl, Shr, Add, Sub, WrapAdd, WrapSub, Mul, Div, Rem, WrapMul}
use Rattle.core_tree.specs.Syntax as core
use Rattle.core_tree.specs.Syntax.{ExprCore}

-- the operators of one level make one chain
abbrev pub level : BinOp → ℕ
level OrElse = 1
level AndAlso = 2
level Or = 3
level Xor = 4
level And = 5
level Eq = 6
level Ne = 6
level Lt = 7
level Le = 7
level Gt = 7
level Ge = 7
level Shl = 8
level Shr = 8
level Add = 9
level Sub = 9
level WrapAdd = 9
level WrapSub = 9
level Mul = 10
level Div = 10
level Rem = 10
level WrapMul = 10

-- the left operand, of a chain with this place and operator, is a prefix of it
abbrev pub is_chain_prefix : Span → BinOp → ExprSyntax → Bool
is_chain_prefix s op (Binary t prior at left right) = nat_eq (level op) (level prior) && nat_eq s.start t.start
is_chain_prefix s op (Literal t value) = false
is_chain_prefix s op (Truth t value) = false
is_chain_prefix s op (Outcome t) = false
is_chain_prefix s op (Variable t name) = false
is_chain_prefix s op (Cast t kind e) = false
is_chain_prefix s op (ToIndex t n e) = false
is_chain_prefix s op (WrapIndex t n e) = false
is_chain_prefix s op (MakeBits t name e) = false
is_chain_prefix s op (Raw t e) = false
is_chain_prefix s op (SetField t e field value) = false
is_chain_prefix s op (Prefix t mark e) = false
is_chain_prefix s op (Field t e field) = false
is_chain_prefix s op (Element t brackets e index) = false
is_chain_prefix s op (Cond t test first second) = false
is_chain_prefix s op (Bare t e) = false

-- what stands before a step is a prefix of the same postfix
abbrev pub is_postfix_prefix : Span → ExprSyntax → Bool
is_postfix_prefix s (Field t e field) = nat_eq s.start t.start
is_postfix_prefix s (Element t brackets e index) = nat_eq s.start t.start
is_postfix_prefix s (Literal t value) = false
is_postfix_prefix s (Truth t value) = false
is_postfix_prefix s (Outcome t) = false
is_postfix_prefix s (Variable t name) = false
is_postfix_prefix s (Cast t kind e) = false
is_postfix_prefix s (ToIndex t n e) = false
is_postfix_prefix s (WrapIndex t n e) = false
is_postfix_prefix s (MakeBits t name e) = false
is_postfix_prefix s (Raw t e) = false
is_postfix_prefix s (SetField t e field value) = false
is_postfix_prefix s (Prefix t op e) = false
is_postfix_prefix s (Binary t op at left right) = false
is_postfix_prefix s (Cond t test first second) = false
is_postfix_prefix s (Bare t e) = false

-- the core of a part, without its mark where it is a prefix
abbrev pub part : (prefix : Bool) → ExprCore → ExprCore
part false c = c
part true (core.Whole l c) = c
part true (core.Number l value) = core.Number l value
part true (core.Outcome l) = core.Outcome l
part true (core.Local l number) = core.Local l number
part true (core.AreaName l number) = core.AreaName l number
part true (core.Cast l e) = core.Cast l e
part true (core.ToIndex l e) = core.ToIndex l e
part true (core.WrapIndex l e) = core.WrapIndex l e
part true (core.MakeBits l e) = core.MakeBits l e
part true (core.Raw l e) = core.Raw l e
part true (core.SetField l e field value) = core.SetField l e field value
part true (core.Prefix l op e) = core.Prefix l op e
part true (core.Binary l op left right) = core.Binary l op left right
part true (core.Field l e field) = core.Field l e field
part true (core.Element l e index) = core.Element l e index
part true (core.Cond l test first second) = core.Cond l test first second
