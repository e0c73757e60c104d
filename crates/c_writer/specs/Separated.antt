-- The comma and the blank that stand before an element of a list behind others.
use Rattle.std.specs.Prelude.{ℕ, Bool, true, false, List, [], ◌∷◌, codes}

abbrev pub comma : Bool → List ℕ
comma true = codes ", "
comma false = []

-- some stand before
abbrev pub has_any : {A : Type 0} → List A → Bool
has_any [] = false
has_any (x ∷ xs) = true
