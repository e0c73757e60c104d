-- Quotients and remainders toward zero.
use Rattle.std.proofs.Common.{◌≡◌, suc, ℤ, pos, negsuc, ◌+ℤ◌, ◌-ℤ◌, ◌*ℤ◌, false, arith, FitsSigned, of_z, refl}
use Rattle.std.specs.Prelude.{int_div, int_rem}
use Rattle.std.specs.Ordering.{int_eq}
use Rattle.std.proofs.lemmas.Int.{ints, quot-rem}
use Rattle.std.proofs.lemmas.Bool.Decides.{Decides-int_eq}
use Rattle.std.proofs.Math.Nat.{div-le_self}
use mir.Syntax.{w128}
use Rattle.int_ops.proofs.Wide.{IsWide}

-- a divisor whose bits are not all 0
pub nonzero : (b : ℤ) → (of_z w128 b ≡ 0 → ⊥) → int_eq b (pos 0) ≡ false
nonzero (pos k) n = let d = Decides-int_eq (pos k) (pos 0) in grind arith
nonzero (negsuc k) n = refl

-- the remainder is what the quotient leaves
pub left_over : (a b : ℤ) → int_rem a b ≡ a -ℤ int_div a b *ℤ b
left_over a b = let e : int_div a b *ℤ b +ℤ int_rem a b ≡ a = quot-rem a b in omega (arith, ints)

pub quotient_fits : (a b : ℤ) → IsWide a → FitsSigned w128 (int_div a b)
quotient_fits (pos a) (pos b) h = let l = div-le_self a b in grind (arith, ints)
quotient_fits (pos a) (negsuc b) h = let l = div-le_self a (suc b) in grind (arith, ints)
quotient_fits (negsuc a) (pos b) h = let l = div-le_self (suc a) b in grind (arith, ints)
quotient_fits (negsuc a) (negsuc b) h = let l = div-le_self (suc a) (suc b) in grind (arith, ints)
