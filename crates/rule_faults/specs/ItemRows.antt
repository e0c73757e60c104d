-- The nodes of items and of a module. A header is no node of its own.
use Rattle.std.specs.Prelude.{Bool, true, false, not, List, [], ◌∷◌, ◌++◌, Option, Some, None, option_and_then}
use Rattle.ivory_tree.specs.Syntax.{Word, TypeSyntax, FieldSyntax, ParamSyntax, HeaderSyntax, ContractSyntax, ProcSyntax, ItemSyntax, BitsData, Struct, Global, Import, Procedure, InitSyntax, ModuleSyntax}
use Rattle.ivory_tree.specs.declared.items.BitField.{BitField}
use Rattle.area_types.specs.Syntax as types
use Rattle.source_types.specs.Environments.{Earlier, nothing_earlier}
use Rattle.source_types.specs.Written.{type_in, area_in, regions_of, has_result}
use Rattle.source_types.specs.Items.{after, item_names}
use Rattle.rule_faults.specs.Contexts.{Context, of_body, outside, with_local}
use Rattle.rule_faults.specs.Wants.{Wants}
use Rattle.rule_faults.specs.Nodes.{Boundary, Exported, Imported, Inner, ForParam, ForResult, Node, AnItem, ABitField, AField, AParam, AContract}
use Rattle.rule_faults.specs.ExpressionRows.{type_row, area_row, expr_row, init_row}
use Rattle.rule_faults.specs.StatementRows.{block_row}

abbrev pub bit_fields_row : (before : List Word) → List BitField → List Node
bit_fields_row before [] = []
bit_fields_row before (f ∷ fields) = ABitField before f ∷ bit_fields_row (before ++ f.name.text ∷ []) fields

abbrev pub fields_row : Earlier → (before : List Word) → List FieldSyntax → List Node
fields_row earlier before [] = []
fields_row earlier before (f ∷ fields) = AField before f ∷ (area_row earlier f.area ++ fields_row earlier (before ++ f.name.text ∷ []) fields)

-- the parameters, each after those before it
abbrev pub params_row : Context → Boundary → List ParamSyntax → List Node
params_row context boundary [] = []
params_row context boundary (p ∷ params) =
    AParam context p ∷ (type_row context.earlier context.regions (ForParam boundary) p.ty ++ params_row (with_local context p.name.text (type_in context.earlier context.regions p.ty)) boundary params)

abbrev pub result_row : Context → Boundary → Option TypeSyntax → List Node
result_row context boundary None = []
result_row context boundary (Some t) = type_row context.earlier context.regions (ForResult boundary) t

-- what is known of the procedure at its first parameter
abbrev pub at_header : Context → HeaderSyntax → Context
at_header context h = record context { regions = regions_of h.params; gives = has_result h.result; result = option_and_then (type_in context.earlier (regions_of h.params)) h.result }

abbrev pub header_row : Context → Boundary → HeaderSyntax → List Node
header_row context boundary h = params_row (at_header context h) boundary h.params ++ result_row (at_header context h) boundary h.result

abbrev pub with_params : Context → List ParamSyntax → Context
with_params context [] = context
with_params context (p ∷ params) = with_params (with_local context p.name.text (type_in context.earlier context.regions p.ty)) params

-- `result` may be named in an `ensures`
abbrev pub contracts_row : Context → List ContractSyntax → List Node
contracts_row context [] = []
contracts_row context (c ∷ contracts) = AContract c ∷ (expr_row (record context { in_ensures = not c.before }) (Wants types.Truth) c.cond ++ contracts_row context contracts)

abbrev pub boundary_of : (exported : Bool) → Boundary
boundary_of true = Exported
boundary_of false = Inner

abbrev pub init_rows : Context → Option types.Area → Option InitSyntax → List Node
init_rows context area None = []
init_rows context area (Some init) = init_row context true area init

abbrev pub body_row : Context → ProcSyntax → List Node
body_row context p = contracts_row context p.contracts ++ block_row (record context { allowed = of_body }) context.gives p.body

abbrev pub proc_row : Context → ProcSyntax → List Node
proc_row context p = header_row context (boundary_of p.exported) p.header ++ body_row (with_params (at_header context p.header) p.header.params) p

abbrev pub within_item : Context → ItemSyntax → List Node
within_item context (BitsData i) = bit_fields_row [] i.fields
within_item context (Struct i) = fields_row context.earlier [] i.fields
within_item context (Global i) = area_row context.earlier i.area ++ init_rows context (area_in context.earlier i.area) i.init
within_item context (Import h) = header_row context Imported h
within_item context (Procedure p) = proc_row context p

abbrev pub items_row : (names : List Word) → Earlier → List ItemSyntax → List Node
items_row names earlier [] = []
items_row names earlier (item ∷ items) = AnItem earlier item ∷ (within_item (outside names earlier) item ++ items_row names (after earlier item) items)

abbrev pub module_row : ModuleSyntax → List Node
module_row m = items_row (item_names m.items) nothing_earlier m.items
