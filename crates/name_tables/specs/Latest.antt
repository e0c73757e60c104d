-- What names were declared as, the latest declaration first.
use Rattle.std.specs.Prelude.{ℕ, List, [], ◌∷◌, Option, Some, None, if◌then◌else◌}
use Rattle.iv_words.specs.Words.{same_word}

-- what a name was declared as last
abbrev pub latest : {A : Type 0} → List (List ℕ × A) → List ℕ → Option A
latest [] name = None
latest (d ∷ ds) name = if same_word d.0 name then Some d.1 else latest ds name
