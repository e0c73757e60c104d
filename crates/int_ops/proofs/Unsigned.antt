-- Numbers of an unsigned kind, and what the code's operations on their bits give.
use Rattle.std.proofs.Common.{◌≡◌, ℕ, ◌^◌, ◌<◌, ℤ, pos, negsuc, Bool, true, false, not, IsTrue, arith, to_z, of_z}
use Rattle.std.specs.Prelude.{bit_or, bit_xor}
use Rattle.std.proofs.lemmas.Int.{ints, to_z_pos}
use Rattle.std.proofs.lemmas.Nat.{or_lt, xor_lt}
use mir.Syntax.{w128}
use Rattle.iv_words.specs.Kinds.{in_range_of}
use Rattle.int_ops.specs.Operators.{IsKindWidth, bitwise}

below : (bits n : ℕ) → IsKindWidth bits → IsTrue (in_range_of bits false (pos n)) → n < 2 ^ 64
below bits n w h = grind (arith, ints)

pub or_is : (bits : ℕ) (signed : Bool) (a b : ℤ) → IsKindWidth bits → IsTrue (not signed) → IsTrue (in_range_of bits signed a) → IsTrue (in_range_of bits signed b)
    → to_z w128 (bit_or (of_z w128 a) (of_z w128 b)) ≡ bitwise bit_or a b
or_is bits true a b w u h k = cc
or_is bits false (pos a) (pos b) w u h k = let l = or_lt 64 a b (below bits a w h) (below bits b w k) in to_z_pos w128 (bit_or a b) (omega arith)
or_is bits false (pos a) (negsuc b) w u h k = cc
or_is bits false (negsuc a) b w u h k = cc

pub xor_is : (bits : ℕ) (signed : Bool) (a b : ℤ) → IsKindWidth bits → IsTrue (not signed) → IsTrue (in_range_of bits signed a) → IsTrue (in_range_of bits signed b)
    → to_z w128 (bit_xor (of_z w128 a) (of_z w128 b)) ≡ bitwise bit_xor a b
xor_is bits true a b w u h k = cc
xor_is bits false (pos a) (pos b) w u h k = let l = xor_lt 64 a b (below bits a w h) (below bits b w k) in to_z_pos w128 (bit_xor a b) (omega arith)
xor_is bits false (pos a) (negsuc b) w u h k = cc
xor_is bits false (negsuc a) b w u h k = cc
