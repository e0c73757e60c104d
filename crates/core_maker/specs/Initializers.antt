-- What an expression for an area is wanted as, and the fields of a struct.
use Rattle.std.specs.Prelude.{ℕ, List, [], ◌∷◌, slice_get}
use Rattle.area_types.specs.Syntax as types
use Rattle.area_types.specs.Syntax.{ValueType, Area}
use Rattle.core_tree.specs.Syntax.{InitCore, InitsCore, MoreInits}
use Rattle.typing_rules.specs.Environments.{Env}
use Rattle.typing_rules.specs.ExpressionCores.{any_type}
use Rattle.typing_rules.specs.StatementCores.{fields_of}

abbrev pub cell_want : Area → ValueType
cell_want (types.Stored t) = t
cell_want (types.Array n element) = any_type
cell_want (types.Struct k) = any_type

abbrev pub fields_at : Env → ℕ → List types.Field
fields_at env k = fields_of (slice_get env.earlier.structs k)

-- these initializers, and then the rest
abbrev pub ended : List InitCore → InitsCore → InitsCore
ended [] rest = rest
ended (i ∷ is) rest = MoreInits i (ended is rest)
