-- Numbers as so many bits hold them: modulo a power of two, and the power itself.
use Rattle.std.specs.Prelude.{ℕ, ◌^◌, ℤ, pos, unsigned_abs}
use Rattle.std.specs.Int.{int_rem_euclid}

-- the number from 0 to 2 ^ bits - 1 that differs from v by a multiple of 2 ^ bits
abbrev pub modulo : ℕ → ℤ → ℤ
modulo bits v = int_rem_euclid v (pos (2 ^ bits))

-- 2 to the power b, of a number b from 0
abbrev pub two_to : ℤ → ℤ
two_to b = pos (2 ^ unsigned_abs b)
