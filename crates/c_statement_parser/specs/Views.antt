-- What the parts of statements that the parser hands on say in the grammar's words.
use Rattle.std.specs.Prelude.{Bool, List, map, Option}
use Rattle.std.specs.Option.{option_map}
use Rattle.c_ast.specs.Syntax.{Name, Expr, FunctionCall, Stmt, Stmts}
use Rattle.c_ast.specs.View.{expr_of, init_of, call_of, stmt_of, stmts_of}
use Rattle.c_ast.specs.declared.expr.CExpr.{CExpr}
use Rattle.c_ast.specs.declared.expr.CInit.{CInit}
use Rattle.c_ast.specs.declared.stmt.CCall.{CCall}
use Rattle.c_ast.specs.declared.stmt.CStmt.{CStmt}
use Rattle.c_grammar.specs.Symbols as symbols
use Rattle.c_grammar.specs.ExpressionRules as expressions
use Rattle.c_grammar.specs.StatementRules as statements
use Rattle.c_expression_parser.specs.declared.parts.Step.{Step}
use Rattle.c_expression_parser.specs.declared.parts.Side.{Side}
use Rattle.c_expression_parser.specs.Views.{side_of, steps_of, exprs_of}

abbrev pub value_or_call_of : Side CExpr CCall → symbols.Side Expr FunctionCall
value_or_call_of = side_of expr_of call_of

abbrev pub call_or_steps_of : Side (List CExpr) (List Step) → symbols.Side (List Expr) (List expressions.Step)
call_or_steps_of = side_of exprs_of steps_of

abbrev pub held_of : (Option Bool × Name) × Side CExpr CCall → statements.Held
held_of h = (h.0, value_or_call_of h.1)

abbrev pub held_pointer_of : (Bool × Name) × Side CExpr CCall → (Bool × Name) × symbols.Side Expr FunctionCall
held_pointer_of h = (h.0, value_or_call_of h.1)

abbrev pub declared_of : Name × Option CInit → statements.Declared
declared_of d = (d.0, option_map init_of d.1)

abbrev pub scalar_declared_of : Side ((Option Bool × Name) × Side CExpr CCall) (Name × Option CInit) → symbols.Side statements.Held statements.Declared
scalar_declared_of = side_of held_of declared_of

abbrev pub struct_declared_of : Side ((Bool × Name) × Side CExpr CCall) (Name × Option CInit) → symbols.Side ((Bool × Name) × symbols.Side Expr FunctionCall) statements.Declared
struct_declared_of = side_of held_pointer_of declared_of

abbrev pub assigned_of : List Step × CExpr → statements.Assigned
assigned_of a = (steps_of a.0, expr_of a.1)

abbrev pub call_or_assigned_of : Side (List CExpr) (List Step × CExpr) → symbols.Side (List Expr) statements.Assigned
call_or_assigned_of = side_of exprs_of assigned_of

abbrev pub branches_of : List CStmt × Option (List CStmt) → Stmts × Option Stmts
branches_of b = (stmts_of b.0, option_map stmts_of b.1)

abbrev pub lines_of : List CStmt → List Stmt
lines_of = map stmt_of
