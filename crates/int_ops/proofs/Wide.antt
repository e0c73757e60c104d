-- Numbers of a kind lie well inside 128 bits, and so do their sums, differences and opposites.
use Rattle.std.proofs.Common.{◌≡◌, ℕ, ◌^◌, ℤ, pos, negsuc, ◌+ℤ◌, ◌-ℤ◌, neg_ℤ, ◌<ℤ◌, Bool, true, false, IsTrue, arith, to_z, of_z}
use Rattle.std.proofs.lemmas.Int.{ints}
use mir.Syntax.{w128}
use Rattle.iv_words.specs.Kinds.{in_range_of}
use Rattle.int_ops.specs.Operators.{IsKindWidth}

pub record IsWide (v : ℤ) : Type 0 where
  pub above : negsuc (2 ^ 64) <ℤ v
  pub below : v <ℤ pos (2 ^ 64)

pub wide : (bits : ℕ) (signed : Bool) (v : ℤ) → IsKindWidth bits → IsTrue (in_range_of bits signed v) → IsWide v
wide bits true v w h = record { above = grind (arith, ints); below = grind (arith, ints) }
wide bits false v w h = record { above = grind (arith, ints); below = grind (arith, ints) }

-- a number of 128 bits is what its bits say
pub as_it_is : (v : ℤ) → IsWide v → to_z w128 (of_z w128 v) ≡ v
as_it_is v h = omega (arith, ints)

-- what the code's operations give
pub sum_is : (a b : ℤ) → IsWide a → IsWide b → to_z w128 (of_z w128 (to_z w128 (of_z w128 a) +ℤ to_z w128 (of_z w128 b))) ≡ a +ℤ b
sum_is a b h k = rw (as_it_is a h, as_it_is b k) (omega (arith, ints))

pub difference_is : (a b : ℤ) → IsWide a → IsWide b → to_z w128 (of_z w128 (to_z w128 (of_z w128 a) -ℤ to_z w128 (of_z w128 b))) ≡ a -ℤ b
difference_is a b h k = rw (as_it_is a h, as_it_is b k) (omega (arith, ints))

pub opposite_is : (a : ℤ) → IsWide a → to_z w128 (of_z w128 (pos 0 -ℤ to_z w128 (of_z w128 a))) ≡ neg_ℤ a
opposite_is a h = rw (as_it_is a h) (omega (arith, ints))
