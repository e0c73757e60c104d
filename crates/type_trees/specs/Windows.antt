-- Parts of lists: where one stands in another, and what a list is with another in its place.
use Rattle.std.specs.Prelude.{◌≡◌, ℕ, List, ◌++◌, length}

-- `inner` stands in `whole` behind n others
pub record Window {A : Type 0} (whole inner : List A) (n : ℕ) : Type 0 where
  pub before : List A
  pub after : List A
  pub is : whole ≡ before ++ (inner ++ after)
  pub number : length before ≡ n

-- `new` is `whole` with `other` in the place of `inner`, which stands in it behind n others
pub record Replaced {A : Type 0} (whole inner other new : List A) (n : ℕ) : Type 0 where
  pub before : List A
  pub after : List A
  pub was : whole ≡ before ++ (inner ++ after)
  pub is : new ≡ before ++ (other ++ after)
  pub number : length before ≡ n
