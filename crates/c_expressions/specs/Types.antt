-- What the code's static types say in the words of the static types.
use Rattle.std.specs.Prelude.{Option, Some, None}
use Rattle.std.specs.Borrow.{Bor}
use Rattle.std.specs.Option.{option_map, option_copied, option_and_then}
use Rattle.c_ast.specs.StaticTypes as static_types
use Rattle.c_ast.specs.StaticTypes.{Arithmetic, PointerTo, Held, Stored, of_both, of_choice}
use Rattle.c_ast.specs.Structs.{CTree}
use Rattle.c_ast.specs.Targets.{TargetTable}
use Rattle.c_objects.specs.declared.Shape.{Shape}
use Rattle.c_objects.specs.Shapes.{base_of, type_tree, tree_of}
use Rattle.c_expressions.specs.declared.types.ValueType.{ValueType}
use Rattle.c_expressions.specs.declared.types.ValueType.TheVariants as value
use Rattle.c_expressions.specs.declared.types.PlaceType.{PlaceType}
use Rattle.c_expressions.specs.declared.types.PlaceType.TheVariants as place

abbrev pub value_type : ValueType → Option static_types.ValueType
value_type value.Unknown = None
value_type (value.Number k) = Some (Arithmetic k)
value_type (value.Pointer constant b) = Some (PointerTo constant (base_of b))

abbrev pub place_type : PlaceType → Option static_types.PlaceType
place_type place.Unknown = None
place_type (place.HeldNumber k) = Some (Held (Arithmetic k))
place_type (place.HeldPointer constant b) = Some (Held (PointerTo constant (base_of b)))
place_type (place.Stored constant ty) = Some (Stored constant (type_tree ty))

-- `?:` of three types
abbrev pub chosen : TargetTable → Option static_types.ValueType → Option static_types.ValueType → Option static_types.ValueType → Option static_types.ValueType
chosen t c a b = option_and_then (λ test. of_both (of_choice t test) a b) c

abbrev pub shape_seen : Option (Bor Shape) → Option CTree
shape_seen shape = option_map tree_of (option_copied shape)
