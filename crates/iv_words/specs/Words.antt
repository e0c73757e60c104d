-- When two words are the same.
use Rattle.std.specs.Prelude.{ℕ, Bool, nat_eq, List}
use Rattle.std.specs.Cmp.Lexicographic.{pointwise}

-- the same bytes
abbrev pub same_word : List ℕ → List ℕ → Bool
same_word a b = pointwise nat_eq a b
