-- What each kind of item declares.
use Rattle.std.specs.Prelude.{Bool, List, [], ◌∷◌, ◌++◌, map, Option}
use Rattle.ivory_tree.specs.Syntax.{Word, ParamSyntax, StructSyntax, GlobalSyntax, HeaderSyntax}
use Rattle.area_types.specs.Syntax.{ValueType}
use Rattle.source_types.specs.Environments.{Earlier}
use Rattle.source_types.specs.Written.{type_in, struct_in, global_in, callee_in}

abbrev pub param_types : Earlier → (regions : List Word) → List ParamSyntax → List (Option ValueType)
param_types earlier regions params = map (λ (p : ParamSyntax). type_in earlier regions p.ty) params

abbrev pub with_struct : Earlier → StructSyntax → Earlier
with_struct earlier i = record earlier { structs = earlier.structs ++ struct_in earlier i ∷ [] }

abbrev pub with_global : Earlier → GlobalSyntax → Earlier
with_global earlier i = record earlier { areas = earlier.areas ++ global_in earlier i ∷ [] }

abbrev pub with_callee : Earlier → (import : Bool) → HeaderSyntax → Earlier
with_callee earlier import h = record earlier { callees = earlier.callees ++ callee_in earlier import h ∷ [] }
