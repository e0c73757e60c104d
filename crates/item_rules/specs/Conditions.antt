-- The condition of a contract.
use Rattle.std.specs.Prelude.{List, not}
use Rattle.ivory_tree.specs.Syntax.{ContractSyntax}
use Rattle.area_types.specs.Syntax as types
use Rattle.rule_faults.specs.Contexts.{Context}
use Rattle.rule_faults.specs.ExpressionRows.{expr_row}
use Rattle.rule_faults.specs.Nodes.{Node}
use Rattle.rule_faults.specs.Wants.{Wants}

-- `result` may be named in an `ensures`
abbrev pub condition_row : Context → ContractSyntax → List Node
condition_row context c = expr_row (record context { in_ensures = not c.before }) (Wants types.Truth) c.cond
