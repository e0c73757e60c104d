-- The expression that the code makes for each operator: which form is taken where.
use Rattle.std.specs.Prelude.{ℕ, Bool, true, false, if◌then◌else◌, nat_lt}
use Rattle.int_ops.specs.declared.Op.{Op}
use Rattle.int_ops.specs.declared.Op.TheVariants as op
use Rattle.int_ops.specs.declared.Stop.{Stop}
use Rattle.int_ops.specs.declared.Stop.TheVariants.{Overflow, DivZero, Shift}
use Rattle.c_ast.specs.declared.CUnary.TheVariants.{Neg, Flip}
use Rattle.c_ast.specs.declared.CBinary.TheVariants.{Add, Sub, Mul, Div, Rem, And, Or, Xor, Shl, Shr, Eq, Ne, Lt, Le, Gt, Ge}
use Rattle.c_ast.specs.Syntax.{Expr, Unary, Binary}
use Rattle.overflow_checks.specs.Parts.{plain, operand_of, is_constant, double_product}
use Rattle.overflow_checks.specs.UnsignedForms.{sum_fits, difference_fits, narrow_product_fits, wide_product_fits, divisor_is_some, shift_fits}
use Rattle.overflow_checks.specs.SignedForms.{narrow_sum_fits, narrow_difference_fits, wide_sum_fits, wide_difference_fits, narrow_signed_product_fits, wide_signed_product_fits, opposite_fits, quotient_fits}

-- ---- guards, where int has int_bits; one of a check that the operator does not have is 1

abbrev pub sum_guard : (int_bits bits : ℕ) → Bool → Expr → Expr → Expr
sum_guard int_bits bits false a b = sum_fits bits a b
sum_guard int_bits bits true a b = if nat_lt bits int_bits then narrow_sum_fits bits a b else wide_sum_fits bits a b

abbrev pub difference_guard : (int_bits bits : ℕ) → Bool → Expr → Expr → Expr
difference_guard int_bits bits false a b = difference_fits a b
difference_guard int_bits bits true a b = if nat_lt bits int_bits then narrow_difference_fits bits a b else wide_difference_fits bits a b

abbrev pub product_guard : (bits : ℕ) → Bool → Expr → Expr → Expr
product_guard bits false a b = if nat_lt bits 64 then narrow_product_fits bits a b else wide_product_fits bits a b
product_guard bits true a b = if nat_lt bits 64 then narrow_signed_product_fits bits a b else wide_signed_product_fits bits a b

abbrev pub quotient_guard : (bits : ℕ) → Stop → Expr → Expr → Expr
quotient_guard bits DivZero a b = divisor_is_some b
quotient_guard bits Overflow a b = quotient_fits bits a b
quotient_guard bits Shift a b = plain 1

abbrev pub guard_of : (int_bits bits : ℕ) → Bool → Op → Stop → Expr → Expr → Expr
guard_of int_bits bits signed op.Add which a b = sum_guard int_bits bits signed a b
guard_of int_bits bits signed op.Sub which a b = difference_guard int_bits bits signed a b
guard_of int_bits bits signed op.Mul which a b = product_guard bits signed a b
guard_of int_bits bits signed op.Neg which a b = opposite_fits bits a
guard_of int_bits bits signed op.Div which a b = quotient_guard bits which a b
guard_of int_bits bits signed op.Rem which a b = quotient_guard bits which a b
guard_of int_bits bits signed op.Shl which a b = shift_fits bits b
guard_of int_bits bits signed op.Shr which a b = shift_fits bits b
guard_of int_bits bits signed _ which a b = plain 1

-- A constant is taken as the right operand of a product: so compilers see that they need not divide.
abbrev pub is_turned : Op → Expr → Bool
is_turned op.Mul a = is_constant a
is_turned _ a = false

abbrev pub turned_guard : (int_bits bits : ℕ) → Bool → Op → Stop → (turned : Bool) → Expr → Expr → Expr
turned_guard int_bits bits signed op which true a b = guard_of int_bits bits signed op which b a
turned_guard int_bits bits signed op which false a b = guard_of int_bits bits signed op which a b

abbrev pub guard_for : (int_bits bits : ℕ) → Bool → Op → Stop → Expr → Expr → Expr
guard_for int_bits bits signed op which a b =
    turned_guard int_bits bits signed op which (is_turned op a) (operand_of bits signed a) (operand_of bits signed b)

-- ---- computations

abbrev pub product_of : (bits : ℕ) → Bool → Expr → Expr → Expr
product_of bits signed a b = if nat_lt bits 64 then double_product bits signed a b else Binary Mul a b

abbrev pub computation_of : (bits : ℕ) → Bool → Op → Expr → Expr → Expr
computation_of bits signed op.Add a b = Binary Add a b
computation_of bits signed op.Sub a b = Binary Sub a b
computation_of bits signed op.Mul a b = product_of bits signed a b
computation_of bits signed op.Div a b = Binary Div a b
computation_of bits signed op.Rem a b = Binary Rem a b
computation_of bits signed op.Shl a b = Binary Shl a b
computation_of bits signed op.Shr a b = Binary Shr a b
computation_of bits signed op.And a b = Binary And a b
computation_of bits signed op.Or a b = Binary Or a b
computation_of bits signed op.Xor a b = Binary Xor a b
computation_of bits signed op.Neg a b = Unary Neg a
computation_of bits signed op.Not a b = Unary Flip a
computation_of bits signed op.WrapAdd a b = Binary Add a b
computation_of bits signed op.WrapSub a b = Binary Sub a b
computation_of bits signed op.WrapMul a b = product_of bits signed a b
computation_of bits signed op.Eq a b = Binary Eq a b
computation_of bits signed op.Ne a b = Binary Ne a b
computation_of bits signed op.Lt a b = Binary Lt a b
computation_of bits signed op.Le a b = Binary Le a b
computation_of bits signed op.Gt a b = Binary Gt a b
computation_of bits signed op.Ge a b = Binary Ge a b

abbrev pub computation_for : (bits : ℕ) → Bool → Op → Expr → Expr → Expr
computation_for bits signed op a b = computation_of bits signed op (operand_of bits signed a) (operand_of bits signed b)
