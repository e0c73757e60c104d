-- What a name in a procedure has, and what an expression comes to.
use Rattle.std.specs.Prelude.{ℕ, ℤ, List}

-- A whole number: a truth is 1 or 0, an index its number, and bit data its word. Or a reference to a part of an area: the number of the
-- area, and a path of element and field numbers, from the outermost inwards.
pub data Value : Type 0 where
  Num : ℤ → Value
  Ref : (area : ℕ) → (path : List ℕ) → Value
