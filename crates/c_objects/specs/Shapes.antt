-- What the types of objects are, as trees.
use Rattle.std.specs.Prelude.{List, [], ◌∷◌}
use Rattle.type_trees.specs.Trees.{Leaf, Many, Struct, End, Field}
use Rattle.c_ast.specs.Syntax.{Name}
use Rattle.c_ast.specs.Structs.{CTree, CRow, times, base_tree}
use Rattle.c_ast.specs.declared.CMember.{CMember}
use Rattle.c_objects.specs.declared.shape.Shape.{Shape}
use Rattle.c_objects.specs.declared.shape.Field.TheOpen.{Shape-F, Field-F}
use Rattle.c_objects.specs.declared.shape.Field.TheFolds.{fold-Shape, fold-Field}
use Rattle.c_objects.specs.declared.shape.Field.{Field as Member}
use Rattle.c_objects.specs.declared.shape.Base.{Base}
use Rattle.c_objects.specs.declared.shape.Base.TheVariants.{Scalar, Struct as Named}
use Rattle.c_objects.specs.declared.shape.ObjectType.{ObjectType}
use Rattle.c_objects.specs.declared.shape.ObjectType.TheVariants as object
use Rattle.c_ast.specs.declared.CBase.{CBase}
use Rattle.c_ast.specs.declared.CBase.TheVariants as base

abbrev pub row_from : List (Name × CTree) → CRow
row_from [] = End
row_from (x ∷ xs) = Field x.0 x.1 (row_from xs)

abbrev pub field_step : Field-F (Name × CTree) CTree → Name × CTree
field_step (Field-F.Named f a) = (f, a)

abbrev pub shape_step : Shape-F (Name × CTree) CTree → CTree
shape_step (Shape-F.Leaf s) = Leaf s
shape_step (Shape-F.Many n a) = Many n a
shape_step (Shape-F.Struct k fields) = Struct k (row_from fields)

abbrev pub tree_of : Shape → CTree
tree_of = fold-Shape (Name × CTree) CTree field_step shape_step

abbrev pub field_of : Member → Name × CTree
field_of = fold-Field (Name × CTree) CTree field_step shape_step

-- ---- references to types

abbrev pub base_of : Base → CBase
base_of (Scalar s) = base.Scalar s
base_of (Named w) = base.Struct w.now

abbrev pub type_tree : ObjectType → CTree
type_tree (object.Scalar s) = Leaf s
type_tree (object.Missing w) = Struct w.now End
type_tree (object.Shaped a) = tree_of a.now

-- a member with its name, where these types are declared
abbrev pub entry : List (Name × CTree) → CMember → Name × CTree
entry types m = (m.name, times m.length (base_tree types m.base))
