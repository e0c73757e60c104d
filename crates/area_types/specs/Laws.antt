-- A law of the parts of areas: they are areas of the table too.
use Rattle.std.specs.Prelude.{◌≡◌, ℕ, List, Some, IsTrue}
use Rattle.type_trees.specs.Trees.{part}
use Rattle.area_types.specs.Syntax.{Area}
use Rattle.area_types.specs.Tables.{Table, structs_of, written_out, is_table, is_area}
use Rattle.area_types.specs.Trees.{Written, area_in}

-- a part of an area of a table is an area of that table
abbrev pub PartsAreAreas : Type 0
PartsAreAreas =
    (t : Table) → IsTrue (is_table (structs_of t) t.words) → (a : Area) → IsTrue (is_area t a) → (path : List ℕ) (b : Written) → part (written_out t a) path ≡ Some b
    → IsTrue (is_area t (area_in b)) × (written_out t (area_in b) ≡ b)
