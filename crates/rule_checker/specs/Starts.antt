-- The rules that may be broken at an initializer, as rows of numbers with tests.
use Rattle.std.specs.Prelude.{ℕ, Bool, true, not, ◌&&◌, nat_lt, List, [], ◌∷◌, Option, Some, None, option_map, option_and_then, slice_get}
use Rattle.ivory_tree.specs.Syntax.{ExprSyntax}
use Rattle.area_types.specs.Syntax as types
use Rattle.area_types.specs.Syntax.{Area, StructType}
use Rattle.source_types.specs.Environments.{Earlier}
use Rattle.rule_faults.specs.Tests.{where_there}
use Rattle.rule_faults.specs.ItemRules.{is_first_value, place_count}

abbrev pub field_at : Earlier → ℕ → ℕ → Option Area
field_at earlier k i = option_map (λ (f : types.Field). f.area) (option_and_then (λ (s : StructType). slice_get s.fields i) (slice_get earlier.structs k))

-- a lone expression
abbrev pub one_rows : (global : Bool) → Option Area → ExprSyntax → List (ℕ × Bool)
one_rows global None e = []
one_rows global (Some (types.Stored t)) e = (17, global && not (is_first_value e)) ∷ []
one_rows global (Some (types.Array n element)) e = (15, true) ∷ []
one_rows global (Some (types.Struct k)) e = (15, true) ∷ []

abbrev pub has_more : Option ℕ → ℕ → Bool
has_more places count = where_there places (λ n. nat_lt n count)

-- so many in braces
abbrev pub many_rows : Earlier → Option Area → (count : ℕ) → List (ℕ × Bool)
many_rows earlier None count = []
many_rows earlier (Some (types.Stored t)) count = (15, true) ∷ []
many_rows earlier (Some (types.Array n element)) count = (16, has_more (place_count earlier (types.Array n element)) count) ∷ []
many_rows earlier (Some (types.Struct k)) count = (16, has_more (place_count earlier (types.Struct k)) count) ∷ []
