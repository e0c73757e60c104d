-- What a header gives a procedure after the items that are known at a place.
use Rattle.std.specs.Prelude.{List, [], ◌∷◌, Option}
use Rattle.ivory_tree.specs.Syntax.{HeaderSyntax, ProcSyntax}
use Rattle.area_types.specs.Syntax.{ValueType}
use Rattle.core_tree.specs.Syntax.{ParamCore, ProcCore}
use Rattle.rule_checker.specs.Contexts.{earlier_of}
use Rattle.typing_rules.specs.Environments.{Env, with_local}
use Rattle.typing_rules.specs.Items.{with_params, param_cores}
use Rattle.typing_rules.specs.ItemCores.{param_types, result_core, proc_core}
use Rattle.typing_rules.specs.WellTyped.{at_header}
use Rattle.core_maker.specs.declared.Place.{Place}

-- these parameters are in scope too
abbrev pub with_cores : Env → List ParamCore → Env
with_cores env [] = env
with_cores env (p ∷ params) = with_cores (with_local env p.name p.ty) params

-- at the header
abbrev pub header_at : Place → HeaderSyntax → Env
header_at p h = at_header p.context.names (earlier_of p.context.items) h

abbrev pub params_at : Place → HeaderSyntax → List ParamCore
params_at p h = param_cores h.params (param_types (header_at p h) h.params)

abbrev pub result_at : Place → HeaderSyntax → Option ValueType
result_at p h = result_core (header_at p h) h.result

-- behind it
abbrev pub behind : Place → HeaderSyntax → Env
behind p h = with_params (record (header_at p h) { result = result_at p h }) h.params (param_types (header_at p h) h.params)

abbrev pub proc_at : Place → ProcSyntax → ProcCore
proc_at p proc = proc_core (header_at p proc.header) proc
