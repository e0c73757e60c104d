-- The comma and the space that stand before an element of a list behind others.
use Rattle.std.specs.Prelude.{ℕ, Bool, true, false, List, [], codes}

abbrev pub comma : Bool → List ℕ
comma true = codes ", "
comma false = []
