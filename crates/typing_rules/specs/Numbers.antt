-- The number of a check is the number of checks that stand before it: those whose token begins earlier, and at one token a division by zero
-- before an overflow.
use Rattle.std.specs.Prelude.{ℕ, ◌+◌, ◌*◌, nat_lt, if◌then◌else◌, List, [], ◌∷◌}
use Rattle.core_tree.specs.declared.Check.{Check}
use Rattle.core_tree.specs.declared.SiteKind.{SiteKind}
use Rattle.core_tree.specs.declared.SiteKind.TheVariants.{Overflow, DivZero, Shift, Index, Cast, Assert, Pre, Post}

abbrev pub late : SiteKind → ℕ
late Overflow = 1
late DivZero = 0
late Shift = 0
late Index = 0
late Cast = 0
late Assert = 0
late Pre = 0
late Post = 0

abbrev pub key : Check → ℕ
key c = 2 * c.span.start + late c.kind

abbrev pub below : ℕ → Check → ℕ
below n c = if nat_lt (key c) n then 1 else 0

abbrev pub rank : ℕ → List Check → ℕ
rank n [] = 0
rank n (c ∷ cs) = below n c + rank n cs

-- numbers by these checks, whatever the numbers of these are
abbrev pub numbered_by : List Check → Check → Check
numbered_by cs c = record { site = rank (key c) cs; kind = c.kind; span = c.span }
