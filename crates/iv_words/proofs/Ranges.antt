-- Ranges of numbers of so many bits: the wider one has the numbers of the narrower.
use Rattle.std.proofs.Common.{ℕ, ◌-◌, ◌^◌, ◌≤◌, ℤ, Bool, true, false, IsTrue, arith}
use Rattle.std.proofs.lemmas.Int.{ints}
use Rattle.std.proofs.lemmas.Nat.{pow_pos}
use Rattle.std.proofs.Math.Nat.{pow-le-pow_right}
use Rattle.iv_words.specs.Kinds.{in_range_of}

pub powers_grow : (m n : ℕ) → m ≤ n → 2 ^ m ≤ 2 ^ n
powers_grow m n le = pow-le-pow_right {n = 2} (omega arith) le

pub wider : (m n : ℕ) (signed : Bool) (v : ℤ) → m ≤ n → IsTrue (in_range_of m signed v) → IsTrue (in_range_of n signed v)
wider m n true v le h =
    let p = powers_grow (m - 1) (n - 1) (omega arith) in let a = pow_pos (m - 1) in let b = pow_pos (n - 1) in grind (arith, ints)
wider m n false v le h = let p = powers_grow m n le in let a = pow_pos m in let b = pow_pos n in grind (arith, ints)
