-- Which form an operand takes: a constant is cast to the kind, and every other expression stays.
use Rattle.std.proofs.Common.{◌≡◌, ℕ, Bool, true, false, refl}
use Rattle.iv_words.specs.Kinds.{kind_at}
use Rattle.c_ast.specs.Syntax.{Expr, Number, Read, Address, Unary, Binary, Cast, Cond}
use Rattle.overflow_checks.specs.Parts.{cast_to, operand_of, is_constant}

pub constant_is_cast : (bits : ℕ) (signed : Bool) (e : Expr) → is_constant e ≡ true → cast_to (kind_at bits signed) e ≡ operand_of bits signed e
constant_is_cast bits signed (Number n suffix) is = refl
constant_is_cast bits signed (Read place) is = cc
constant_is_cast bits signed (Address place) is = cc
constant_is_cast bits signed (Unary op e) is = cc
constant_is_cast bits signed (Binary op a b) is = cc
constant_is_cast bits signed (Cast to e) is = cc
constant_is_cast bits signed (Cond c a b) is = cc

pub other_stays : (bits : ℕ) (signed : Bool) (e : Expr) → is_constant e ≡ false → e ≡ operand_of bits signed e
other_stays bits signed (Number n suffix) is = cc
other_stays bits signed (Read place) is = refl
other_stays bits signed (Address place) is = refl
other_stays bits signed (Unary op e) is = refl
other_stays bits signed (Binary op a b) is = refl
other_stays bits signed (Cast to e) is = refl
other_stays bits signed (Cond c a b) is = refl
