-- The rules that may be broken at the type of a parameter and of a result, as rows of numbers with tests.
use Rattle.std.specs.Prelude.{ℕ, Bool, false, not, List, [], ◌∷◌, ◌++◌, Option}
use Rattle.ivory_tree.specs.Syntax.{Word, TypeSyntax, TruthType, IntType, IndexType, BitsType, RefType}
use Rattle.ivory_tree.specs.declared.types.RegionText.TheVariants as region
use Rattle.ivory_tree.specs.declared.types.RegionText.{RegionText}
use Rattle.area_types.specs.Syntax.{ValueType}
use Rattle.source_types.specs.Environments.{Earlier, has_word}
use Rattle.source_types.specs.Values.{is_plain}
use Rattle.rule_faults.specs.ItemRules.{type_but_region, gives_other_cells}
use Rattle.rule_faults.specs.Nodes as rules
use Rattle.rule_faults.specs.Tests.{where_there}
use Rattle.statement_rules.specs.Areas.{held_rows}
use Rattle.item_rules.specs.declared.boundaries.Boundary.{Boundary}
use Rattle.item_rules.specs.declared.boundaries.Boundary.TheVariants.{Exported, Imported, Inner}

abbrev pub boundary_at : Boundary → rules.Boundary
boundary_at Exported = rules.Exported
boundary_at Imported = rules.Imported
boundary_at Inner = rules.Inner

-- a type that is no bool and no whole number
abbrev pub is_other : Option ValueType → Bool
is_other t = where_there t (λ ty. not (is_plain ty))

-- what is passed, whatever its region
abbrev pub passed_rows : Earlier → rules.Boundary → Option ValueType → List (ℕ × Bool)
passed_rows earlier rules.Exported t = (13, is_other t) ∷ []
passed_rows earlier rules.Imported t = (14, where_there t (gives_other_cells earlier)) ∷ []
passed_rows earlier rules.Inner t = []

abbrev pub given_rows : rules.Boundary → Option ValueType → List (ℕ × Bool)
given_rows rules.Exported t = (13, is_other t) ∷ []
given_rows rules.Imported t = (14, is_other t) ∷ []
given_rows rules.Inner t = []

abbrev pub is_foreign : (regions : List Word) → RegionText → Bool
is_foreign regions region.Global = false
is_foreign regions (region.Named name) = not (has_word regions name)

-- a result is in the region of some parameter
abbrev pub region_rows : (regions : List Word) → TypeSyntax → List (ℕ × Bool)
region_rows regions (RefType s constant region area) = (12, is_foreign regions region) ∷ []
region_rows regions (TruthType s) = []
region_rows regions (IntType s kind) = []
region_rows regions (IndexType s n) = []
region_rows regions (BitsType s name) = []

abbrev pub param_rows : Earlier → rules.Boundary → TypeSyntax → List (ℕ × Bool)
param_rows earlier boundary t = held_rows earlier t ++ passed_rows earlier boundary (type_but_region earlier t)

abbrev pub result_rows : Earlier → (regions : List Word) → rules.Boundary → TypeSyntax → List (ℕ × Bool)
result_rows earlier regions boundary t = held_rows earlier t ++ (region_rows regions t ++ given_rows boundary (type_but_region earlier t))
