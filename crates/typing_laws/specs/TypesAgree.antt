-- Both definitions give an expression the same type.
use Rattle.std.specs.Prelude.{◌≡◌, Option, Some}
use Rattle.ivory_tree.specs.Syntax.{ExprSyntax}
use Rattle.area_types.specs.Syntax.{ValueType}
use Rattle.core_tree.specs.Syntax as core
use Rattle.core_tree.specs.Syntax.{ExprCore}
use Rattle.rule_faults.specs.Types.{type_of}
use Rattle.typing_rules.specs.Environments.{Env}
use Rattle.typing_rules.specs.Contexts.{context_of}
use Rattle.typing_rules.specs.Expressions.{Has, Under}

-- a settled expression, whatever is wanted of it
abbrev pub SettledAgree : Type 0
SettledAgree = (env : Env) (e : ExprSyntax) (c : ExprCore) → Has env e c → (wanted : Option ValueType) → type_of (context_of env) wanted e ≡ Some (core.type_of c)

-- an expression of which a type is wanted
abbrev pub WantedAgree : Type 0
WantedAgree = (env : Env) (t : ValueType) (e : ExprSyntax) (c : ExprCore) → Under env t e c → (type_of (context_of env) (Some t) e ≡ Some t) × (core.type_of c ≡ t)
