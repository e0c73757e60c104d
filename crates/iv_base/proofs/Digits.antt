-- A value that stands still at the greatest u128 is an i128 exactly where the true value is.
use Rattle.std.proofs.Common.{◌≡◌, ℕ, ◌-◌, ◌^◌, min, ℤ, pos, ◌+ℤ◌, ◌-ℤ◌, Option, FitsSigned, arith}
use Rattle.std.specs.Prelude.{Some, None}
use Rattle.std.specs.Option.{SomeIff}
use Rattle.std.specs.Int.{w128}
use Rattle.iv_base.specs.Numbers.{narrowed}

abbrev stood : ℕ → ℕ
stood n = min n (2 ^ 128 - 1)

pub narrowed_positive : (n : ℕ) (r : Option ℤ) → SomeIff r (FitsSigned w128 (pos 0 +ℤ pos (stood n))) (pos 0 +ℤ pos (stood n)) → r ≡ narrowed (pos n)
narrowed_positive n None not = grind arith
narrowed_positive n (Some x) is = grind arith

pub narrowed_negative : (n : ℕ) (r : Option ℤ) → SomeIff r (FitsSigned w128 (pos 0 -ℤ pos (stood n))) (pos 0 -ℤ pos (stood n)) → r ≡ narrowed (pos 0 -ℤ pos n)
narrowed_negative n None not = grind arith
narrowed_negative n (Some x) is = grind arith
