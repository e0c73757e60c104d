-- The cores of items, with 0 for the numbers of their checks, as functions of their text.
use Rattle.std.specs.Prelude.{ℤ, List, [], map, Option, Some, None, Result, Ok, Err}
use Rattle.iv_words.specs.declared.IntKind.{IntKind}
use Rattle.ivory_tree.specs.Syntax.{TypeSyntax, InitSyntax, GlobalSyntax, ParamSyntax, HeaderSyntax, ContractSyntax, ProcSyntax}
use Rattle.ivory_tree.specs.declared.items.BitsItem.{BitsItem}
use Rattle.type_trees.specs.Trees.{count}
use Rattle.area_types.specs.Syntax as types
use Rattle.area_types.specs.Syntax.{ValueType, Area}
use Rattle.bit_data.specs.Layouts.{laid_out}
use Rattle.bit_data.specs.declared.BitLayout.{BitLayout}
use Rattle.bit_data.specs.declared.LayoutFault.{LayoutFault}
use Rattle.core_tree.specs.Syntax.{AreaCore, ImportCore, ContractCore, ProcCore}
use Rattle.source_types.specs.Written.{type_in, area_in}
use Rattle.typing_rules.specs.Environments.{Env}
use Rattle.typing_rules.specs.Sites.{first_token}
use Rattle.typing_rules.specs.Areas.{written}
use Rattle.typing_rules.specs.Initializers.{cell_values, zeros}
use Rattle.typing_rules.specs.Items.{wish_of, plain_result, param_cores, behind_header, in_body, at_contract, contract_site, contract_bytes}
use Rattle.typing_rules.specs.ExpressionCores.{type_or, core_of}
use Rattle.typing_rules.specs.StatementCores.{area_or, init_core, block_last, block_core}

-- ---- bit data

abbrev pub layout_or : IntKind → Result BitLayout LayoutFault → BitLayout
layout_or word (Ok layout) = layout
layout_or word (Err fault) = record { name = []; word = word; fields = [] }

abbrev pub layout_core : BitsItem → BitLayout
layout_core i = record (layout_or i.word (laid_out i.word (map wish_of i.fields))) { name = i.name.text }

-- ---- areas

-- the first values of an area; without an initializer they are zero
abbrev pub first_core : Env → Area → Option InitSyntax → List ℤ
first_core env area None = zeros (count (written env.earlier area))
first_core env area (Some i) = cell_values (written env.earlier area) (init_core env area i)

abbrev pub area_core : Env → GlobalSyntax → AreaCore
area_core env i = record {
  name = i.name.text;
  constant = i.constant;
  area = area_or (area_in env.earlier i.area);
  first = first_core env (area_or (area_in env.earlier i.area)) i.init;
}

-- ---- headers and imports

abbrev pub param_types : Env → List ParamSyntax → List ValueType
param_types env params = map (λ (p : ParamSyntax). type_or (type_in env.earlier env.regions p.ty)) params

abbrev pub result_core : Env → Option TypeSyntax → Option ValueType
result_core env None = None
result_core env (Some text) = Some (type_or (type_in env.earlier env.regions text))

abbrev pub import_core : Env → HeaderSyntax → ImportCore
import_core env h = record { name = h.name.text; params = param_types env h.params; result = plain_result (result_core env h.result) }

-- ---- procedures

abbrev pub contract_core : Env → ContractSyntax → ContractCore
contract_core env c = record {
  before = c.before;
  cond = core_of (at_contract env c) types.Truth c.cond;
  check = record { site = 0; kind = contract_site c.before; span = first_token c.span (contract_bytes c.before) };
}

-- behind the header
abbrev pub proc_behind : Env → ProcSyntax → List ValueType → Option ValueType → ProcCore
proc_behind env p types result = record {
  name = p.header.name.text;
  exported = p.exported;
  params = param_cores p.header.params types;
  result = result;
  contracts = map (contract_core env) p.contracts;
  locals = (block_last (in_body env) p.body).locals;
  body = block_core (in_body env) p.body;
}

abbrev pub proc_with : Env → ProcSyntax → List ValueType → Option ValueType → ProcCore
proc_with env p types result = proc_behind (behind_header env p types result) p types result

abbrev pub proc_core : Env → ProcSyntax → ProcCore
proc_core env p = proc_with env p (param_types env p.header.params) (result_core env p.header.result)
