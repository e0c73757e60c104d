-- The area that a shape names in a table, or why there is none.
use Rattle.std.specs.Prelude.{ℕ, List, unwrap_or, Bool, true, false, ◌&&◌, not, if◌then◌else◌, is_some, nat_eq, Option, Result, Ok, Err}
use Rattle.std.specs.Cmp.Lexicographic.{pointwise}
use Rattle.std.specs.List.{position_from}
use Rattle.area_types.specs.Syntax as syntax
use Rattle.area_types.specs.Syntax.{Name, ValueType, Area, StructType}
use Rattle.area_types.specs.Shapes.{Shape, Stored, Array, Struct}
use Rattle.area_types.specs.Tables.{Table, structs_of, written_out, is_length, is_stored, is_small}
use Rattle.area_types.specs.declared.fault.AreaFault.{AreaFault}
use Rattle.area_types.specs.declared.fault.AreaFault.TheVariants.{ZeroLength, LaterStruct, TooLarge}

abbrev pub is_no_reference : ValueType → Bool
is_no_reference (syntax.Ref constant region target) = false
is_no_reference _ = true

-- it stores no reference
abbrev pub stores_no_reference : Shape → Bool
stores_no_reference (Stored held) = is_no_reference held
stores_no_reference (Array n element) = stores_no_reference element
stores_no_reference (Struct name) = true

-- what it stores may be stored in the table: no reference, and bits of a word that is there
abbrev pub stores_values : (words : ℕ) → Shape → Bool
stores_values words (Stored held) = is_stored words held
stores_values words (Array n element) = stores_values words element
stores_values words (Struct name) = true

-- the number of the first struct of the name
abbrev pub number_of : List StructType → Name → Option ℕ
number_of structs name = position_from (λ s. pointwise nat_eq s.name name) 0 structs

-- each array has a length from 1 to 65,535
abbrev pub has_lengths : Shape → Bool
has_lengths (Stored held) = true
has_lengths (Array n element) = is_length n && has_lengths element
has_lengths (Struct name) = true

-- each struct is there
abbrev pub has_structs : List StructType → Shape → Bool
has_structs structs (Stored held) = true
has_structs structs (Array n element) = has_structs structs element
has_structs structs (Struct name) = is_some (number_of structs name)

-- the area of the shape, with a number in the place of each name
abbrev pub area_named : List StructType → Shape → Area
area_named structs (Stored held) = syntax.Stored held
area_named structs (Array n element) = syntax.Array n (area_named structs element)
area_named structs (Struct name) = syntax.Struct (unwrap_or (number_of structs name) 0)

-- that area, or the first of the three faults
abbrev pub interned : Table → Shape → Result Area AreaFault
interned table shape =
    if not (has_lengths shape) then Err ZeroLength
    else (if not (has_structs (structs_of table) shape) then Err LaterStruct
    else (if is_small table.words (written_out table (area_named (structs_of table) shape)) then Ok (area_named (structs_of table) shape)
    else Err TooLarge))
