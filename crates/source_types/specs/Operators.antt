-- The table of operators: which are comparisons, and for which types each is. `&&` and `||` are for bool.
use Rattle.std.specs.Prelude.{Bool, true, false, ◌||◌}
use Rattle.area_types.specs.Syntax.{ValueType}
use Rattle.ivory_tree.specs.declared.expr.BinOp.{BinOp}
use Rattle.ivory_tree.specs.declared.expr.BinOp.TheVariants.{OrElse, AndAlso, Or, Xor, And, Eq, Ne, Lt, Le, Gt, Ge, Shl, Shr, Add, Sub, WrapAdd, WrapSub, Mul, Div, Rem, WrapMul}
use Rattle.ivory_tree.specs.declared.expr.PrefixOp.{PrefixOp}
use Rattle.ivory_tree.specs.declared.expr.PrefixOp.TheVariants.{Neg, Not, Flip, Deref}
use Rattle.source_types.specs.Values.{is_truth, is_integer, is_unsigned_integer, is_signed_integer, is_index_type}

-- `&&` and `||`
abbrev pub is_logic : BinOp → Bool
is_logic OrElse = true
is_logic AndAlso = true
is_logic _ = false

abbrev pub is_comparison : BinOp → Bool
is_comparison Eq = true
is_comparison Ne = true
is_comparison Lt = true
is_comparison Le = true
is_comparison Gt = true
is_comparison Ge = true
is_comparison _ = false

-- the result is a bool, whatever the operands are
abbrev pub gives_truth : BinOp → Bool
gives_truth op = is_logic op || is_comparison op

-- Which types an operator is for. A bool is wanted of what stands beside `&&` and `||`, so rule 22 needs no rows for these two; they are here so
-- that each operator has one.
abbrev pub is_for : BinOp → ValueType → Bool
is_for OrElse t = is_truth t
is_for AndAlso t = is_truth t
is_for Or t = is_unsigned_integer t
is_for Xor t = is_unsigned_integer t
is_for And t = is_unsigned_integer t
is_for Eq t = is_integer t || is_index_type t || is_truth t
is_for Ne t = is_integer t || is_index_type t || is_truth t
is_for Lt t = is_integer t || is_index_type t
is_for Le t = is_integer t || is_index_type t
is_for Gt t = is_integer t || is_index_type t
is_for Ge t = is_integer t || is_index_type t
is_for Shl t = is_unsigned_integer t
is_for Shr t = is_unsigned_integer t
is_for Add t = is_integer t
is_for Sub t = is_integer t
is_for WrapAdd t = is_unsigned_integer t
is_for WrapSub t = is_unsigned_integer t
is_for Mul t = is_integer t
is_for Div t = is_integer t
is_for Rem t = is_integer t
is_for WrapMul t = is_unsigned_integer t

-- the prefixes `-` and `~`, which give the type of their operand
abbrev pub is_arithmetic : PrefixOp → Bool
is_arithmetic Neg = true
is_arithmetic Flip = true
is_arithmetic _ = false

-- The same for a prefix. Rule 22 asks for `-` and `~` alone: a bool is wanted after `!`, and `*` is for references, which is rule 23.
abbrev pub prefix_is_for : PrefixOp → ValueType → Bool
prefix_is_for Neg t = is_signed_integer t
prefix_is_for Flip t = is_unsigned_integer t
prefix_is_for Not t = is_truth t
prefix_is_for Deref t = false
