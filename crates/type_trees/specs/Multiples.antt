-- The least multiple of an alignment that is not below an offset: where the next member stands, and where a struct ends.
use Rattle.std.specs.Prelude.{◌≡◌, ℕ, ◌+◌, ◌-◌, ◌%◌, ◌≤◌}

unfoldable pub up : (o a : ℕ) → ℕ
up o a = o + (a - o % a) % a

-- u is the least multiple of a that is not below o
pub record LeastMultiple (o a u : ℕ) : Type 0 where
  pub multiple : u % a ≡ 0
  pub reached : o ≤ u
  pub least : (n : ℕ) → o ≤ n → n % a ≡ 0 → u ≤ n
