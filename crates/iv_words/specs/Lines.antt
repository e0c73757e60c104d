-- The line and the column of a byte place in a text, both from 1. A line ends at byte 10.
use Rattle.std.specs.Prelude.{ℕ, ◌+◌, if◌then◌else◌, nat_eq, List, [], ◌∷◌, take, reverse}
use Rattle.std.specs.List.{count_by}

-- one more than the number of line ends before the place
abbrev pub line : List ℕ → ℕ → ℕ
line text at = 1 + count_by (nat_eq 10) (take at text)

-- how many bytes come before the first line end, or in all where there is none
abbrev pub before_line_end : List ℕ → ℕ
before_line_end [] = 0
before_line_end (b ∷ bs) = if nat_eq 10 b then 0 else 1 + before_line_end bs

-- one more than the number of bytes from the place back to the nearest line end, or to the text's start
abbrev pub column : List ℕ → ℕ → ℕ
column text at = 1 + before_line_end (reverse (take at text))
