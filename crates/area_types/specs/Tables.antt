-- Tables of structs, and which areas and structs they allow. A table has besides the word of each item of bit data.
use Rattle.std.specs.Prelude.{ℕ, List, [], ◌∷◌, ◌++◌, length, map, nat_lt, nat_le, Bool, true, false, ◌&&◌}
use Rattle.std.specs.List.{list_all}
use Rattle.iv_words.specs.declared.IntKind.{IntKind}
use Rattle.type_trees.specs.Trees.{Struct, levels}
use Rattle.type_trees.specs.Layouts.{size}
use Rattle.area_types.specs.Syntax as syntax
use Rattle.area_types.specs.Syntax.{ValueType, Area, Field, StructType}
use Rattle.area_types.specs.View.{field_of, struct_of}
use Rattle.area_types.specs.Trees.{Written, WrittenRow, tree_of, fields_of, trees_of}
use Rattle.area_types.specs.Sizes.{metric}
use Rattle.area_types.specs.declared.structs.FieldDef.{FieldDef}
use Rattle.area_types.specs.declared.structs.StructDef.{StructDef}

-- what contracts see of a table
pub record Table : Type 0 where
  pub structs : List StructDef
  pub words : List IntKind

abbrev pub structs_of : Table → List StructType
structs_of table = map struct_of table.structs

-- an area, with its structs written out as these structs say
abbrev pub tree_over : List StructDef → Area → Written
tree_over structs area = tree_of (trees_of (map struct_of structs)) area

-- the fields of a struct that stands after these structs
abbrev pub fields_over : List StructDef → List FieldDef → WrittenRow
fields_over structs fields = fields_of (trees_of (map struct_of structs)) (map field_of fields)

-- an area, with its structs written out as the table says
abbrev pub written_out : Table → Area → Written
written_out table area = tree_over table.structs area

-- ---- areas

-- an array or an index has a length from 1 to 65,535
abbrev pub is_length : ℕ → Bool
is_length n = nat_le 1 n && nat_le n 65_535

-- what an area may store: no reference, and bits of a word that is there
abbrev pub is_stored : (words : ℕ) → ValueType → Bool
is_stored words (syntax.Bits k) = nat_lt k words
is_stored words (syntax.Ref constant region target) = false
is_stored words _ = true

-- the area is made of what there is: of so many structs and words
abbrev pub is_made_of : (structs words : ℕ) → Area → Bool
is_made_of structs words (syntax.Stored held) = is_stored words held
is_made_of structs words (syntax.Array n element) = is_length n && is_made_of structs words element
is_made_of structs words (syntax.Struct k) = nat_lt k structs

-- at most 65,535 bytes, and at most 32 levels of arrays and structs
abbrev pub is_small : List IntKind → Written → Bool
is_small words a = nat_le (size (metric words) a) 65_535 && nat_le (levels a) 32

-- an area of the table
abbrev pub is_area : Table → Area → Bool
is_area table area = is_made_of (length table.structs) (length table.words) area && is_small table.words (written_out table area)

-- ---- structs

-- each index in the area has a length from 1 to 65,535
abbrev pub has_index_length : ValueType → Bool
has_index_length (syntax.Ix n) = is_length n
has_index_length _ = true

abbrev pub has_index_lengths : Area → Bool
has_index_lengths (syntax.Stored held) = has_index_length held
has_index_lengths (syntax.Array n element) = has_index_lengths element
has_index_lengths (syntax.Struct k) = true

-- numbers of structs have 32 bits
abbrev pub is_number : ℕ → Bool
is_number k = nat_lt k 4_294_967_296

abbrev pub is_field : (structs words : ℕ) → Field → Bool
is_field structs words f = is_made_of structs words f.area && has_index_lengths f.area

-- the struct has a field, is made of the structs before it and the words, is small, and has a number
abbrev pub fits_after : List StructType → List IntKind → StructType → Bool
fits_after structs words s =
    nat_lt 0 (length s.fields) && list_all (is_field (length structs) (length words)) s.fields
    && is_small words (Struct (length structs) (fields_of (trees_of structs) s.fields)) && is_number (length structs)

-- each of the further structs fits after those before it
abbrev pub fit_after : List StructType → List IntKind → List StructType → Bool
fit_after structs words [] = true
fit_after structs words (s ∷ more) = fits_after structs words s && fit_after (structs ++ s ∷ []) words more

-- the table's invariant
abbrev pub is_table : List StructType → List IntKind → Bool
is_table structs words = fit_after [] words structs
