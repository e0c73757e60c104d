-- Numbers below 2^64.
use Rattle.std.specs.Prelude.{ℕ, ◌^◌, nat_lt, Option, Some, None, if◌then◌else◌}

abbrev pub below_limit : ℕ → Option ℕ
below_limit n = if nat_lt n (2 ^ 64) then Some n else None
