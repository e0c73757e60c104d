-- What the types of objects and places that the code borrows from a unit say in the words of the static types.
use Rattle.std.specs.Prelude.{[], Option, Some, None}
use Rattle.c_ast.specs.StaticTypes.{PlaceType, Arithmetic, PointerTo, Held, Stored}
use Rattle.c_ast.specs.Structs.{CTree, row_of, table, tree}
use Rattle.type_trees.specs.Trees as trees
use Rattle.c_scopes.specs.declared.shapes.Shape.{Shape}
use Rattle.c_scopes.specs.declared.shapes.Shape.TheVariants as shape
use Rattle.c_scopes.specs.declared.shapes.PlaceType as borrowed
use Rattle.c_scopes.specs.declared.shapes.PlaceType.TheVariants as place
use Rattle.c_scopes.specs.StructViews.{structs_view}
use Rattle.c_scopes.specs.Tables.{members_view}
use Rattle.c_scopes.specs.Views.{base_view}

abbrev pub shape_view : Shape → CTree
shape_view (shape.Scalar s) = trees.Leaf s
shape_view (shape.Array n b structs) = trees.Many n (tree (structs_view structs) (base_view b))
shape_view (shape.Struct tag members structs) = trees.Struct tag.now (row_of (table [] (structs_view structs)) (members_view members))

abbrev pub place_view : borrowed.PlaceType → Option PlaceType
place_view place.Unknown = None
place_view (place.HeldNumber k) = Some (Held (Arithmetic k))
place_view (place.HeldPointer constant b) = Some (Held (PointerTo constant (base_view b)))
place_view (place.Stored constant s) = Some (Stored constant (shape_view s))
