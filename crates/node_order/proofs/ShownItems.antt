-- The row of nodes of an item or a module has the places of its tree; so it is in the order of the text.
use Rattle.std.proofs.Common.{◌≡◌, true, not, List, [], ◌∷◌, ◌++◌, map, refl, sym, ap, ap₂, ◌&&◌, ◌∙◌}
use Rattle.std.specs.Prelude.{Option, Some, None, option_map}
use Rattle.std.proofs.lemmas.List.Folds.{list_all-map}
use Rattle.ivory_tree.specs.Syntax.{Word, TypeSyntax, FieldSyntax, ParamSyntax, HeaderSyntax, ContractSyntax, ProcSyntax, ItemSyntax, BitsData, Struct, Global, Import, Procedure, InitSyntax}
use Rattle.ivory_tree.specs.declared.BitField.{BitField}
use Rattle.ivory_tree.specs.Nodes.{bit_field_node, field_node, param_node, contract_node, type_node, init_node, item_node, module_nodes, nodes_from, none_or_one, header_nodes, proc_nodes}
use Rattle.area_types.specs.Syntax as types
use Rattle.source_types.specs.Environments.{Earlier, nothing_earlier}
use Rattle.source_types.specs.Written.{type_in, area_in}
use Rattle.source_types.specs.Items.{after, item_names}
use Rattle.rule_faults.specs.Contexts.{Context, of_body, outside, with_local}
use Rattle.rule_faults.specs.Wants.{Wants}
use Rattle.rule_faults.specs.Nodes.{Boundary, Imported, ForParam, ForResult, Node, AnItem, ABitField, AField, AParam, AContract, span_of}
use Rattle.rule_faults.specs.ExpressionRows.{type_row, area_row, expr_row}
use Rattle.rule_faults.specs.ItemRows.{bit_fields_row, fields_row, params_row, result_row, at_header, header_row, with_params, contracts_row, boundary_of, init_rows, proc_row, within_item, items_row, module_row}
use Rattle.rule_faults.specs.FirstFault.{comes_before, in_order}
use Rattle.node_order.specs.Laws.{ModulesAreInOrder}
use Rattle.node_order.proofs.Ordered.{ordered}
use Rattle.node_order.proofs.Placed.{row_ordered}
use Rattle.node_order.proofs.Shown.{Shows, ShowsAll, none, more, last, under, both, type_shown, area_shown, expr_shown, init_shown}
use Rattle.node_order.proofs.ShownStatements.{block_shown}

bit_fields_shown : (before : List Word) (fields : List BitField) → ShowsAll (bit_fields_row before fields) (nodes_from (map bit_field_node fields))
bit_fields_shown before [] = none
bit_fields_shown before (f ∷ fields) =
    let first : Shows (ABitField before f ∷ []) (bit_field_node f) = under none in
    more first (bit_fields_shown (before ++ f.name.text ∷ []) fields)

fields_shown : (earlier : Earlier) (before : List Word) (fields : List FieldSyntax) → ShowsAll (fields_row earlier before fields) (nodes_from (map field_node fields))
fields_shown earlier before [] = none
fields_shown earlier before (f ∷ fields) =
    let first : Shows (AField before f ∷ area_row earlier f.area) (field_node f) = under (last (area_shown earlier f.area)) in
    more first (fields_shown earlier (before ++ f.name.text ∷ []) fields)

params_shown : (context : Context) (boundary : Boundary) (params : List ParamSyntax) → ShowsAll (params_row context boundary params) (nodes_from (map param_node params))
params_shown context boundary [] = none
params_shown context boundary (p ∷ params) =
    let first : Shows (AParam context p ∷ type_row context.earlier context.regions (ForParam boundary) p.ty) (param_node p) = under (last (type_shown context.earlier context.regions (ForParam boundary) p.ty)) in
    more first (params_shown (with_local context p.name.text (type_in context.earlier context.regions p.ty)) boundary params)

result_shown : (context : Context) (boundary : Boundary) (t : Option TypeSyntax) → ShowsAll (result_row context boundary t) (none_or_one (option_map type_node t))
result_shown context boundary None = none
result_shown context boundary (Some t) = last (type_shown context.earlier context.regions (ForResult boundary) t)

header_shown : (context : Context) (boundary : Boundary) (h : HeaderSyntax) → ShowsAll (header_row context boundary h) (header_nodes h)
header_shown context boundary h = both (params_shown (at_header context h) boundary h.params) (result_shown (at_header context h) boundary h.result)

contracts_shown : (context : Context) (contracts : List ContractSyntax) → ShowsAll (contracts_row context contracts) (nodes_from (map contract_node contracts))
contracts_shown context [] = none
contracts_shown context (c ∷ contracts) =
    let inner : Context = record context { in_ensures = not c.before } in
    let first : Shows (AContract c ∷ expr_row inner (Wants types.Truth) c.cond) (contract_node c) = under (last (expr_shown inner (Wants types.Truth) c.cond)) in
    more first (contracts_shown context contracts)

inits_shown : (context : Context) (area : Option types.Area) (init : Option InitSyntax) → ShowsAll (init_rows context area init) (none_or_one (option_map init_node init))
inits_shown context area None = none
inits_shown context area (Some init) = last (init_shown context true area init)

proc_shown : (context : Context) (p : ProcSyntax) → ShowsAll (proc_row context p) (proc_nodes p)
proc_shown context p =
    let within : Context = with_params (at_header context p.header) p.header.params in
    both (header_shown context (boundary_of p.exported) p.header)
    (both (contracts_shown within p.contracts) (last (block_shown (record within { allowed = of_body }) within.gives p.body)))

item_shown : (earlier : Earlier) (context : Context) (item : ItemSyntax) → Shows (AnItem earlier item ∷ within_item context item) (item_node item)
item_shown earlier context (BitsData i) = under (bit_fields_shown [] i.fields)
item_shown earlier context (Struct i) = under (fields_shown context.earlier [] i.fields)
item_shown earlier context (Global i) = under (more (area_shown context.earlier i.area) (inits_shown context (area_in context.earlier i.area) i.init))
item_shown earlier context (Import h) = under (header_shown context Imported h)
item_shown earlier context (Procedure p) = under (proc_shown context p)

items_shown : (names : List Word) (earlier : Earlier) (items : List ItemSyntax) → ShowsAll (items_row names earlier items) (nodes_from (map item_node items))
items_shown names earlier [] = none
items_shown names earlier (item ∷ items) = more (item_shown earlier (outside names earlier) item) (items_shown names (after earlier item) items)

-- ---- the order

order_of_places : (ns : List Node) → in_order ns ≡ ordered (map span_of ns)
order_of_places [] = refl
order_of_places (n ∷ ns) = ap₂ (λ a b. a && b) (sym (list_all-map (λ t. comes_before (span_of n) t) span_of ns)) (order_of_places ns)

pub modules_in_order : ModulesAreInOrder
modules_in_order m formed =
    order_of_places (module_row m) ∙ ap ordered (items_shown (item_names m.items) nothing_earlier m.items).same ∙ (row_ordered 0 (module_nodes m) formed.places).order
