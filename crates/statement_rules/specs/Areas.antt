-- The rules that may be broken at an area and at what it stores, as rows of numbers with tests, and what is within a type.
use Rattle.std.specs.Prelude.{ℕ, Bool, not, List, [], ◌∷◌, ◌++◌, Option}
use Rattle.ivory_tree.specs.Syntax.{TypeSyntax, TruthType, IntType, IndexType, BitsType, RefType, AreaSyntax, StoredArea, ArrayArea, StructArea}
use Rattle.area_types.specs.Syntax.{Area}
use Rattle.area_types.specs.Tables.{is_length, is_small}
use Rattle.source_types.specs.Environments.{Earlier, words, is_struct, is_bits}
use Rattle.source_types.specs.Written.{area_in}
use Rattle.rule_faults.specs.ExpressionRows.{type_row, area_row}
use Rattle.rule_faults.specs.ItemRules.{written}
use Rattle.rule_faults.specs.Nodes.{Node, Within}
use Rattle.rule_faults.specs.Tests.{where_there}

-- the area exists, and is too large or too deep
abbrev pub is_great : Earlier → Option Area → Bool
is_great earlier area = where_there area (λ a. not (is_small (words earlier) (written earlier a)))

abbrev pub size_rows : Earlier → Option Area → List (ℕ × Bool)
size_rows earlier area = (9, is_great earlier area) ∷ []

abbrev pub form_rows : Earlier → AreaSyntax → List (ℕ × Bool)
form_rows earlier (StoredArea s ty) = []
form_rows earlier (ArrayArea s n element) = (8, not (is_length n)) ∷ []
form_rows earlier (StructArea s name) = (5, not (is_struct earlier name)) ∷ []

abbrev pub area_rows : Earlier → AreaSyntax → List (ℕ × Bool)
area_rows earlier a = form_rows earlier a ++ size_rows earlier (area_in earlier a)

-- of a type that is stored
abbrev pub held_rows : Earlier → TypeSyntax → List (ℕ × Bool)
held_rows earlier (TruthType s) = []
held_rows earlier (IntType s kind) = []
held_rows earlier (IndexType s n) = (8, not (is_length n)) ∷ []
held_rows earlier (BitsType s name) = (6, not (is_bits earlier name)) ∷ []
held_rows earlier (RefType s constant region area) = []

abbrev pub within_area : Earlier → AreaSyntax → List Node
within_area earlier (StoredArea s ty) = type_row earlier [] Within ty
within_area earlier (ArrayArea s n element) = area_row earlier element
within_area earlier (StructArea s name) = []

abbrev pub within_type : Earlier → TypeSyntax → List Node
within_type earlier (TruthType s) = []
within_type earlier (IntType s kind) = []
within_type earlier (IndexType s n) = []
within_type earlier (BitsType s name) = []
within_type earlier (RefType s constant region area) = area_row earlier area
