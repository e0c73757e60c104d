-- What is typed breaks no rule.
use Rattle.std.specs.Prelude.{◌≡◌, Option, None}
use Rattle.ivory_tree.specs.Syntax.{ExprSyntax, CallSyntax}
use Rattle.area_types.specs.Syntax.{ValueType}
use Rattle.core_tree.specs.Syntax.{ExprCore, CallCore}
use Rattle.rule_faults.specs.Wants.{Nothing, Wants}
use Rattle.rule_faults.specs.ExpressionRows.{expr_row, call_row}
use Rattle.rule_faults.specs.FirstFault.{first_of}
use Rattle.typing_rules.specs.Environments.{Env}
use Rattle.typing_rules.specs.Contexts.{context_of}
use Rattle.typing_rules.specs.Expressions.{Has, Under}
use Rattle.typing_rules.specs.Calls.{Calls}

-- no node of a settled expression of which nothing is wanted
abbrev pub SettledIsClean : Type 0
SettledIsClean = (env : Env) (e : ExprSyntax) (c : ExprCore) → Has env e c → first_of (expr_row (context_of env) Nothing e) ≡ None

-- nor of one of which its type is wanted
abbrev pub WantedIsClean : Type 0
WantedIsClean = (env : Env) (t : ValueType) (e : ExprSyntax) (c : ExprCore) → Under env t e c → first_of (expr_row (context_of env) (Wants t) e) ≡ None

-- nor a call
abbrev pub CallIsClean : Type 0
CallIsClean = (env : Env) (call : CallSyntax) (c : CallCore) (result : Option ValueType) → Calls env call c result → first_of (call_row (context_of env) call) ≡ None
