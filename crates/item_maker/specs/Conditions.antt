-- The core of a contract, where it is known whether `result` may be named.
use Rattle.ivory_tree.specs.Syntax.{ContractSyntax}
use Rattle.area_types.specs.Syntax as types
use Rattle.core_tree.specs.Syntax.{ContractCore}
use Rattle.typing_rules.specs.Environments.{Env}
use Rattle.typing_rules.specs.ExpressionCores.{core_of}
use Rattle.typing_rules.specs.Items.{contract_site, contract_bytes}
use Rattle.typing_rules.specs.Sites.{first_token}

abbrev pub contract_there : Env → ContractSyntax → ContractCore
contract_there env c = record {
  before = c.before;
  cond = core_of env types.Truth c.cond;
  check = record { site = 0; kind = contract_site c.before; span = first_token c.span (contract_bytes c.before) };
}
