-- Whether the cells of each struct of a table are bools and whole numbers, from the first struct on.
use Rattle.std.specs.Prelude.{ℕ, Bool, true, List, map, unwrap_or, slice_get}
use Rattle.std.specs.List.{list_all}
use Rattle.area_types.specs.Syntax as types
use Rattle.area_types.specs.Syntax.{Area, StructType}
use Rattle.area_types.specs.Trees.{trees_of}
use Rattle.source_types.specs.Values.{is_plain}
use Rattle.rule_faults.specs.ItemRules.{plain_cells}

-- of each struct
abbrev pub plain_structs : List StructType → List Bool
plain_structs structs = map plain_cells (trees_of structs)

-- a struct that is not there has no cells
abbrev pub plain_struct : List Bool → ℕ → Bool
plain_struct known k = unwrap_or (slice_get known k) true

-- of an area, where that is known of the structs
abbrev pub plain_area : List Bool → Area → Bool
plain_area known (types.Stored t) = is_plain t
plain_area known (types.Array n element) = plain_area known element
plain_area known (types.Struct k) = plain_struct known k

abbrev pub plain_fields : List Bool → List types.Field → Bool
plain_fields known fields = list_all (λ (f : types.Field). plain_area known f.area) fields
