-- Arguments in a row.
use Rattle.std.proofs.Common.{◌≡◌, refl, ap, ℕ, List, [], ◌∷◌, ◌++◌}
use Rattle.std.specs.Prelude.{codes, map}
use Rattle.c_ast.specs.declared.types.CType.{CType}
use Rattle.c_ast.specs.declared.types.Target.{Target}
use Rattle.c_ast.specs.declared.expr.CExpr.{CExpr}
use Rattle.c_ast.specs.View.{expr_of}
use Rattle.c_text.specs.ExpressionText.{expr_text}
use Rattle.c_text.specs.ExpressionRules.{expr_demands, given_demands, args_demands}
use Rattle.c_text.specs.Rules.{Demand, behind}
use Rattle.c_text.specs.Scopes.{Names}
use Rattle.c_expression_rules.specs.Given.{arg_demands}
use Rattle.c_scopes.specs.Scope.{first_type, rest_types}
use Rattle.c_scopes.proofs.Rows.{listed_asks}

abbrev pub item : Target → Names → List CType → ℕ → CExpr → List Demand
item target names ts at e = arg_demands target names at (first_type ts) (expr_of e)

abbrev pub next : List CType → CExpr → List CType
next ts e = rest_types ts

pub args_are : (target : Target) (names : Names) (ts : List CType) (at : ℕ) (es : List CExpr) → listed_asks (λ e. expr_text (expr_of e)) (item target names) next ts at es ≡ args_demands target names at ts (map expr_of es)
args_are target names ts at [] = refl
args_are target names [] at (e ∷ es) = ap (λ ds. expr_demands target names at (expr_of e) ++ ds) (args_are target names [] (behind at (expr_text (expr_of e) ++ codes ", ")) es)
args_are target names (t ∷ ts) at (e ∷ es) = ap (λ ds. given_demands target names at t (expr_of e) ++ ds) (args_are target names ts (behind at (expr_text (expr_of e) ++ codes ", ")) es)
