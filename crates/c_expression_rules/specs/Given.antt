-- Arguments one by one.
use Rattle.std.specs.Prelude.{ℕ, List, Option, Some, None}
use Rattle.c_ast.specs.declared.types.CType.{CType}
use Rattle.c_ast.specs.declared.types.Target.{Target}
use Rattle.c_ast.specs.Syntax.{Expr}
use Rattle.c_text.specs.Rules.{Demand}
use Rattle.c_text.specs.Scopes.{Names}
use Rattle.c_text.specs.ExpressionRules.{expr_demands, given_demands}

-- an argument for a parameter, where there is one
abbrev pub arg_demands : Target → Names → ℕ → Option CType → Expr → List Demand
arg_demands target names at None e = expr_demands target names at e
arg_demands target names at (Some t) e = given_demands target names at t e
