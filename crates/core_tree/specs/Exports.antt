-- What the outside may call in a module: its exported procedures in order, whose parameters and results are bool or integers.
use Rattle.std.specs.Prelude.{List, [], ◌∷◌, ◌++◌, Bool, true, false, Option, Some, None}
use Rattle.std.specs.Option.{option_map, option_and_then}
use Rattle.run_records.specs.declared.Plain.{Plain}
use Rattle.run_records.specs.declared.Plain.TheVariants as plain
use Rattle.run_records.specs.declared.Export.{Export}
use Rattle.area_types.specs.Syntax.{Name, ValueType, Truth, Int}
use Rattle.core_tree.specs.Syntax.{ParamCore, ProcCore, ModuleCore}

-- the plain type that a type is outside, where it is bool or an integer
abbrev pub plain_of : ValueType → Option Plain
plain_of Truth = Some plain.Truth
plain_of (Int kind) = Some (plain.Int kind)
plain_of _ = None

-- the types of all parameters, where each is such a one
abbrev pub plain_params : List ParamCore → Option (List Plain)
plain_params [] = Some []
plain_params (p ∷ ps) = option_and_then (λ t. option_map (λ ts. t ∷ ts) (plain_params ps)) (plain_of p.ty)

-- the type of the result, or none where there is no result, where it is such a one
abbrev pub plain_result : Option ValueType → Option (Option Plain)
plain_result None = Some None
plain_result (Some ty) = option_map Some (plain_of ty)

abbrev pub export_as : Name → Option (List Plain) → Option (Option Plain) → List Export
export_as name (Some params) (Some result) = record { name = name; params = params; result = result } ∷ []
export_as name (Some params) None = []
export_as name None result = []

-- the procedure as an export, or none
abbrev pub exports_by : Bool → ProcCore → List Export
exports_by true p = export_as p.name (plain_params p.params) (plain_result p.result)
exports_by false p = []

abbrev pub exports_among : List ProcCore → List Export
exports_among [] = []
exports_among (p ∷ ps) = exports_by p.exported p ++ exports_among ps

abbrev pub exports_of : ModuleCore → List Export
exports_of m = exports_among m.procs
