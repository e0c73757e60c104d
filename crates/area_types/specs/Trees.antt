-- Areas as trees of types: their structs written out, each named by its number in the table, and a field by its number in the struct.
use Rattle.std.specs.Prelude.{ℕ, suc, List, [], ◌∷◌, ◌++◌, length, Option, slice_get, unwrap_or}
use Rattle.std.specs.Option.{option_map}
use Rattle.type_trees.specs.Trees.{Tree, Leaf, Many, Struct, Row, End, Field, part, first}
use Rattle.area_types.specs.Syntax as syntax
use Rattle.area_types.specs.Syntax.{ValueType, Area, StructType}

abbrev pub Written : Type 0
Written = Tree ValueType ℕ

abbrev pub WrittenRow : Type 0
WrittenRow = Row ValueType ℕ

-- ---- writing out

-- an area, over the trees of the structs so far; a struct that is not among them has no fields
abbrev pub tree_of : List Written → Area → Written
tree_of trees (syntax.Stored held) = Leaf held
tree_of trees (syntax.Array n element) = Many n (tree_of trees element)
tree_of trees (syntax.Struct k) = unwrap_or (slice_get trees k) (Struct k End)

-- fields, numbered from i on
abbrev pub fields_from : (i : ℕ) → List Written → List syntax.Field → WrittenRow
fields_from i trees [] = End
fields_from i trees (f ∷ fs) = Field i (tree_of trees f.area) (fields_from (suc i) trees fs)

abbrev pub fields_of : List Written → List syntax.Field → WrittenRow
fields_of trees fs = fields_from 0 trees fs

-- the trees so far, and then those of more structs, each over the trees of those before it
abbrev pub trees_from : List Written → List StructType → List Written
trees_from trees [] = trees
trees_from trees (s ∷ ss) = trees_from (trees ++ Struct (length trees) (fields_of trees s.fields) ∷ []) ss

abbrev pub trees_of : List StructType → List Written
trees_of structs = trees_from [] structs

-- the area that is written out
abbrev pub area_in : Written → Area
area_in (Leaf held) = syntax.Stored held
area_in (Many n element) = syntax.Array n (area_in element)
area_in (Struct k fields) = syntax.Struct k

-- ---- parts

-- the number of the part's first cell, counted from 0, and the area of the part
abbrev pub cell_at : Written → List ℕ → Option (ℕ × Area)
cell_at a path = option_map (λ b. (first a path, area_in b)) (part a path)
