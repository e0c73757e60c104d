-- What a table holds: the declarations in their order, and the latest of each name once more.
use Rattle.std.specs.Prelude.{◌≡◌, ℕ, List, [], ◌∷◌}
use Rattle.std.specs.Borrow.{Bor}
use Rattle.indexmap.specs.IndexMap.{IndexMap, get_by}
use Rattle.iv_words.specs.Words.{same_word}
use Rattle.name_tables.specs.declared.table.Declared.{Declared}
use Rattle.name_tables.specs.Latest.{latest}

-- these declarations with more before them, of which the latest stands last
abbrev pub declared_in : {T : Type 0} → List (List ℕ × T) → List (Declared T) → List (List ℕ × T)
declared_in ds [] = ds
declared_in ds (e ∷ es) = declared_in ((e.name.now, e.value) ∷ ds) es

-- the map has for each name what it was declared as last
abbrev pub Agree : {T S : Type 0} → IndexMap (Bor (List ℕ)) T S → List (List ℕ × T) → Type 0
Agree hashed ds = (q : Bor (List ℕ)) → get_by (λ k. same_word q.now k.now) hashed ≡ latest ds q.now
