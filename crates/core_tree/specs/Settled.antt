-- Which expressions have a type of their own (rule 18). A number has none: it takes the type that is wanted of it, and so does what is
-- made of numbers alone. What stands within a chain or a postfix with all its links or steps is one with a link or a step.
use Rattle.std.specs.Prelude.{Bool, true, false, ◌||◌, not}
use Rattle.ivory_tree.specs.declared.expr.PrefixOp.TheVariants.{Neg, Not, Flip, Deref}
use Rattle.ivory_tree.specs.declared.expr.BinOp.{BinOp}
use Rattle.ivory_tree.specs.declared.expr.BinOp.TheVariants.{OrElse, AndAlso, Or, Xor, And, Eq, Ne, Lt, Le, Gt, Ge, Shl, Shr, Add, Sub, WrapAdd, WrapSub, Mul, Div, Rem, WrapMul}
use Rattle.core_tree.specs.Syntax.{ExprCore, Number, Outcome, Local, AreaName, Cast, ToIndex, WrapIndex, MakeBits, Raw, SetField, Prefix, Binary, Field, Element, Cond, Whole}
use Rattle.source_types.specs.Values.{is_truth}

abbrev pub is_comparison : BinOp → Bool
is_comparison OrElse = false
is_comparison AndAlso = false
is_comparison Or = false
is_comparison Xor = false
is_comparison And = false
is_comparison Eq = true
is_comparison Ne = true
is_comparison Lt = true
is_comparison Le = true
is_comparison Gt = true
is_comparison Ge = true
is_comparison Shl = false
is_comparison Shr = false
is_comparison Add = false
is_comparison Sub = false
is_comparison WrapAdd = false
is_comparison WrapSub = false
is_comparison Mul = false
is_comparison Div = false
is_comparison Rem = false
is_comparison WrapMul = false

-- whatever its operands are, it gives a truth
abbrev pub gives_truth : BinOp → Bool
gives_truth OrElse = true
gives_truth AndAlso = true
gives_truth Or = false
gives_truth Xor = false
gives_truth And = false
gives_truth Eq = true
gives_truth Ne = true
gives_truth Lt = true
gives_truth Le = true
gives_truth Gt = true
gives_truth Ge = true
gives_truth Shl = false
gives_truth Shr = false
gives_truth Add = false
gives_truth Sub = false
gives_truth WrapAdd = false
gives_truth WrapSub = false
gives_truth Mul = false
gives_truth Div = false
gives_truth Rem = false
gives_truth WrapMul = false

-- a truth is settled
abbrev pub is_settled : ExprCore → Bool
is_settled (Number l value) = is_truth l.ty
is_settled (Outcome l) = true
is_settled (Local l number) = true
is_settled (AreaName l number) = true
is_settled (Cast l e) = true
is_settled (ToIndex l e) = true
is_settled (WrapIndex l e) = true
is_settled (MakeBits l e) = true
is_settled (Raw l e) = true
is_settled (SetField l e field value) = true
is_settled (Prefix l Neg e) = is_settled e
is_settled (Prefix l Flip e) = is_settled e
is_settled (Prefix l Not e) = true
is_settled (Prefix l Deref e) = true
is_settled (Binary l op left right) = gives_truth op || (is_settled left || is_settled right)
is_settled (Field l e field) = true
is_settled (Element l e index) = true
is_settled (Cond l test first second) = is_settled first || is_settled second
is_settled (Whole l e) = is_settled e

-- nothing is wanted of the operands of a comparison, so that one of them has a type of its own
abbrev pub are_settled : BinOp → (left right : ExprCore) → Bool
are_settled op left right = not (is_comparison op) || (is_settled left || is_settled right)

-- the last link of a chain, or the last step of a postfix
abbrev pub is_operated : ExprCore → Bool
is_operated (Number l value) = false
is_operated (Outcome l) = false
is_operated (Local l number) = false
is_operated (AreaName l number) = false
is_operated (Cast l e) = false
is_operated (ToIndex l e) = false
is_operated (WrapIndex l e) = false
is_operated (MakeBits l e) = false
is_operated (Raw l e) = false
is_operated (SetField l e field value) = false
is_operated (Prefix l op e) = false
is_operated (Binary l op left right) = true
is_operated (Field l e field) = true
is_operated (Element l e index) = true
is_operated (Cond l test first second) = false
is_operated (Whole l e) = false
