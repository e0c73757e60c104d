-- The indices of a length n: the whole numbers from 0 to n - 1.
use Rattle.std.specs.Prelude.{ℕ, ℤ, pos, int_le, int_lt, unsigned_abs, Bool, ◌&&◌, if◌then◌else◌, Option, Some, None}
use Rattle.std.specs.Int.{int_rem_euclid}

-- 0 <= v < n
abbrev pub is_index : ℕ → ℤ → Bool
is_index n v = int_le (pos 0) v && int_lt v (pos n)

-- the index that the number is, where it is one
abbrev pub index_of : ℕ → ℤ → Option ℕ
index_of n v = if is_index n v then Some (unsigned_abs v) else None

-- the remainder of the number by n, from 0 to n - 1, also where the number is negative
abbrev pub wrapped : ℕ → ℤ → ℕ
wrapped n v = unsigned_abs (int_rem_euclid v (pos n))
