-- What a table holds whose latest declarations can be taken back: each of them knows what its name stood for before.
use Rattle.std.specs.Prelude.{◌≡◌, ℕ, List, [], ◌∷◌, ⊤, map}
use Rattle.std.specs.Borrow.{Bor}
use Rattle.indexmap.specs.IndexMap.{IndexMap}
use Rattle.name_tables.specs.declared.scoped.Shadowing.{Shadowing}
use Rattle.name_tables.specs.Latest.{latest}
use Rattle.name_tables.specs.Tables.{Agree}

abbrev pub declaration : {T : Type 0} → Shadowing T → List ℕ × T
declaration e = (e.name.now, e.value)

-- declarations of which the latest stands last, put on top of others: the latest first
abbrev pub latest_first : {T : Type 0} → List (List ℕ × T) → List (List ℕ × T) → List (List ℕ × T)
latest_first ds [] = ds
latest_first ds (e ∷ es) = latest_first (e ∷ ds) es

-- what each name stood for before
abbrev pub Restores : {T : Type 0} → List (List ℕ × T) → List (Shadowing T) → Type 0
Restores ds [] = ⊤
Restores ds (e ∷ es) = (e.before ≡ latest ds e.name.now) × Restores (declaration e ∷ ds) es

-- the map has for each name what it was declared as last
pub record Scoped {T S : Type 0} (hashed : IndexMap (Bor (List ℕ)) T S) (es : List (Shadowing T)) : Type 0 where
  pub found : Agree hashed (latest_first [] (map declaration es))
  pub restores : Restores [] es
