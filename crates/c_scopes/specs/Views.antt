-- What the types that the code borrows from a unit say in the words of the static types.
use Rattle.std.specs.Prelude.{Option, Some, None}
use Rattle.std.specs.Option.{option_and_then}
use Rattle.c_ast.specs.declared.types.CBase.{CBase}
use Rattle.c_ast.specs.declared.types.CBase.TheVariants as base
use Rattle.c_ast.specs.declared.types.CType.{CType}
use Rattle.c_ast.specs.declared.types.CType.TheVariants as ctype
use Rattle.c_ast.specs.StaticTypes as static_types
use Rattle.c_ast.specs.StaticTypes.{Arithmetic, PointerTo, of_both, of_choice}
use Rattle.c_ast.specs.Targets.{TargetTable}
use Rattle.c_scopes.specs.declared.types.Base.{Base}
use Rattle.c_scopes.specs.declared.types.Base.TheVariants as borrowed
use Rattle.c_scopes.specs.declared.types.ValueType.{ValueType}
use Rattle.c_scopes.specs.declared.types.ValueType.TheVariants as value
use Rattle.c_scopes.specs.declared.types.Wanted.{Wanted}
use Rattle.c_scopes.specs.declared.types.Wanted.TheVariants as wanted

abbrev pub base_view : Base → CBase
base_view (borrowed.Scalar s) = base.Scalar s
base_view (borrowed.Struct tag) = base.Struct tag.now

abbrev pub value_view : ValueType → Option static_types.ValueType
value_view value.Unknown = None
value_view (value.Number k) = Some (Arithmetic k)
value_view (value.Pointer constant b) = Some (PointerTo constant (base_view b))

abbrev pub type_view : Wanted → CType
type_view wanted.Void = ctype.Void
type_view (wanted.Scalar s) = ctype.Value s
type_view (wanted.Pointer constant b) = ctype.Pointer constant (base_view b)

-- `?:` of three values
abbrev pub chosen : TargetTable → Option static_types.ValueType → Option static_types.ValueType → Option static_types.ValueType → Option static_types.ValueType
chosen t c a b = option_and_then (λ test. of_both (of_choice t test) a b) c
