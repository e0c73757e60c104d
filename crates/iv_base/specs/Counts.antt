-- Counts of 64 bits, which stand still at their last value, and when such a count rose.
use Rattle.std.specs.Prelude.{◌≡◌, ℕ, ◌-◌, ◌^◌, ◌<◌, ◌⊎◌, min}

-- the last value of a count
abbrev pub last : ℕ
last = 2 ^ 64 - 1

abbrev pub capped : ℕ → ℕ
capped n = min n last

-- the count is greater than before, or stands at its last value
abbrev pub Rose : ℕ → ℕ → Type 0
Rose before now = (before < now) ⊎ (now ≡ last)
