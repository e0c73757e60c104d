-- Every part of every area is copied so: by induction over its type.
use Rattle.std.proofs.Common.{◌≡◌, ℕ, suc, [], ◌∷◌, Some, refl, subst}
use Rattle.type_trees.specs.Trees.{Leaf, Many, Struct, End, Field, part_row}
use Rattle.area_types.specs.Tables.{Table}
use Rattle.area_types.specs.Trees.{Written, WrittenRow, area_in}
use Rattle.c_meaning.proofs.Lawful.{LawfulCalls}
use Rattle.area_objects.specs.Both.{Map}
use Rattle.area_objects.specs.Located.{FieldsApart, Numbered}
use Rattle.area_objects.proofs.Located.{fields_in_order}
use Rattle.value_refinement.specs.Settings.{Setting, Set}
use Rattle.body_refinement.proofs.AreaParts.{IsPart, part_is_part, array_length, element_is_part, length_some, length_few}
use Rattle.body_refinement.proofs.CopyParts.{CopyOf, RowCopies, scalar_copied, struct_copied}
use Rattle.body_refinement.proofs.CopyLoops.{array_copied}

module _ (g : Setting) (set : Set g) (objects : Map) (lawful : LawfulCalls g.functions) where
  abbrev table : Table
  table = g.frame.core.structs

  -- each field of a row
  abbrev RowParts : WrittenRow → Type 0
  RowParts row = (f : ℕ) (a : Written) → part_row row f [] ≡ Some a → IsPart table a

  fields_apart : (s : ℕ) (row : WrittenRow) → IsPart table (Struct s row) → FieldsApart g.naming s row
  fields_apart s row h = set.apart s row h.same

  in_order : (s : ℕ) (row : WrittenRow) → IsPart table (Struct s row) → Numbered (Struct s row)
  in_order s row h = subst Numbered h.same (fields_in_order table (area_in (Struct s row)))

  mutual
    pub part_copied : (b : Written) → IsPart table b → CopyOf g objects b
    part_copied (Leaf x) h = scalar_copied g objects x
    part_copied (Many n a) h =
        let is = array_length table set.valid.table n a h in
        array_copied g set objects lawful n a (length_some table set.valid.table n is) (length_few table set.valid.table n is) (part_copied a (element_is_part table set.valid.table n a h))
    part_copied (Struct s row) h =
        struct_copied g set objects s row (fields_apart s row h) (in_order s row h) (row_copied row (λ f a e. part_is_part table set.valid.table (Struct s row) h (f ∷ []) a e))

    row_copied : (row : WrittenRow) → RowParts row → RowCopies g objects row
    row_copied End h = tt
    row_copied (Field f a row) h = (part_copied a (h 0 a refl), row_copied row (λ e b is. h (suc e) b is))
