-- Names in the order in which they were noted, found by hashing.
use Rattle.std.specs.Prelude.{◌≡◌, ℕ, Bool, List, [], ◌∷◌, ◌++◌, length, map, take, position, Option, if◌then◌else◌}
use Rattle.std.specs.List.{list_any}
use Rattle.iv_words.specs.Words.{same_word}
use Rattle.first_form.specs.declared.first.FirstImport.{FirstImport}

-- the place of the first name that is the same
abbrev pub place_of : List ℕ → List (List ℕ) → Option ℕ
place_of name names = position (same_word name) names

abbrev pub is_noted : List ℕ → List (List ℕ) → Bool
is_noted name names = list_any (same_word name) names

-- the names once this one is noted
abbrev pub noted : List (List ℕ) → List ℕ → List (List ℕ)
noted names name = if is_noted name names then names else names ++ name ∷ []

-- the names begin with those of the imports
abbrev pub ImportsFirst : List FirstImport → List (List ℕ) → Type 0
ImportsFirst imports names = take (length imports) names ≡ map (λ i. i.name) imports
