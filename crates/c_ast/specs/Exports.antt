-- What the outside may call in a unit: its functions without `static` whose parameters and result are integers, `bool` or `void`.
use Rattle.std.specs.Prelude.{List, [], ◌∷◌, Option, Some, None, Bool, true, false, ◌++◌}
use Rattle.std.specs.Option.{option_map, option_and_then}
use Rattle.run_records.specs.declared.Plain.{Plain}
use Rattle.run_records.specs.declared.Plain.TheVariants as plain
use Rattle.run_records.specs.declared.Export.{Export}
use Rattle.c_ast.specs.declared.types.CScalar.{CScalar}
use Rattle.c_ast.specs.declared.types.CScalar.TheVariants.{Truth, Int}
use Rattle.c_ast.specs.declared.types.CType.{CType}
use Rattle.c_ast.specs.declared.types.CType.TheVariants.{Void, Value, Pointer}
use Rattle.c_ast.specs.declared.unit.CParam.{CParam}
use Rattle.c_ast.specs.Syntax.{Name, Function, TranslationUnit}
use Rattle.c_ast.specs.Names.{outer_name}

-- the plain type that a scalar is outside
abbrev pub plain_of : CScalar → Plain
plain_of Truth = plain.Truth
plain_of (Int kind) = plain.Int kind

-- the type of a parameter, where it is an integer or `bool`
abbrev pub plain_param : CType → Option Plain
plain_param Void = None
plain_param (Value s) = Some (plain_of s)
plain_param (Pointer constant base) = None

-- the types of all parameters, where each is such a one
abbrev pub plain_params : List CParam → Option (List Plain)
plain_params [] = Some []
plain_params (x ∷ xs) = option_and_then (λ t. option_map (λ ts. t ∷ ts) (plain_params xs)) (plain_param x.ty)

-- the type of the result, or none for `void`, where it is such a one
abbrev pub plain_result : CType → Option (Option Plain)
plain_result Void = Some None
plain_result (Value s) = Some (Some (plain_of s))
plain_result (Pointer constant base) = None

abbrev pub export_as : Name → Option (List Plain) → Option (Option Plain) → List Export
export_as name (Some params) (Some result) = record { name = outer_name name; params = params; result = result } ∷ []
export_as name (Some params) None = []
export_as name None result = []

-- the function as an export, or none
abbrev pub exports_by : Bool → Function → List Export
exports_by true f = []
exports_by false f = export_as f.name (plain_params f.params) (plain_result f.result)

abbrev pub exports_among : List Function → List Export
exports_among [] = []
exports_among (f ∷ fs) = exports_by f.hidden f ++ exports_among fs

abbrev pub c_exports : TranslationUnit → List Export
c_exports u = exports_among u.functions
