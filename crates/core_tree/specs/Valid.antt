-- What holds of each core: the invariant of `Core`.
use Rattle.std.specs.Prelude.{◌≡◌, ℕ, List, map, take, slice_get, Some, All, IsTrue}
use Rattle.area_types.specs.Tables.{structs_of, is_table}
use Rattle.bit_data.specs.Layouts.{IsLayout}
use Rattle.core_tree.specs.declared.check.Check.{Check}
use Rattle.core_tree.specs.Syntax.{ProcCore, ModuleCore}
use Rattle.core_tree.specs.Names.{NamesApart}
use Rattle.core_tree.specs.Sites.{AreSites}
use Rattle.core_tree.specs.TypedItems.{AreaTyped, ImportTyped, ProcTyped}

-- each procedure is well typed after those before it
abbrev pub ProcsTyped : ModuleCore → Type 0
ProcsTyped m = (k : ℕ) (p : ProcCore) → slice_get m.procs k ≡ Some p → ProcTyped m (take k m.procs) p

pub record ValidCore (m : ModuleCore) : Type 0 where
  -- the structs and the words of the bit data are a table of types
  pub table : IsTrue (is_table (structs_of m.structs) m.structs.words)
  -- the bit data of the table have the words of their layouts
  pub words : map (λ l. l.word) m.layouts ≡ m.structs.words
  -- the fields of each bit data lie apart in its word
  pub layouts : All IsLayout m.layouts
  -- names that must be apart are apart
  pub names : NamesApart m
  -- each area has one first value of the right type for each cell
  pub areas : All (AreaTyped m) m.areas
  -- each import may be given what it is given
  pub imports : All (ImportTyped m) m.imports
  -- each procedure is well typed, and calls only those before it
  pub procs : ProcsTyped m
  -- the checks in the order of their tokens
  pub sites : List Check
  -- and each check has the number of its place there
  pub numbered : AreSites m sites
