-- What each tree says in the abstract syntax, by the trees' own folds.
use Rattle.std.specs.Prelude.{List, [], ◌∷◌, map, Option, Some, None}
use Rattle.std.specs.Option.{option_map}
use Rattle.c_ast.specs.Syntax as syntax
use Rattle.c_ast.specs.Syntax.{Expr, Place, Init, Inits, NoInits, MoreInits, FunctionCall, Stmt, Stmts, Nil, Cons, FileObject, Function, TranslationUnit}
use Rattle.c_ast.specs.declared.expr.CExpr.{CExpr}
use Rattle.c_ast.specs.declared.expr.CExpr.TheOpen.{CExpr-F, CPlace-F}
use Rattle.c_ast.specs.declared.expr.CExpr.TheFolds.{fold-CExpr, fold-CPlace}
use Rattle.c_ast.specs.declared.expr.CPlace.{CPlace}
use Rattle.c_ast.specs.declared.expr.CInit.{CInit}
use Rattle.c_ast.specs.declared.expr.CInit.TheOpen.{CInit-F}
use Rattle.c_ast.specs.declared.expr.CInit.TheFolds.{fold-CInit}
use Rattle.c_ast.specs.declared.stmt.CCall.{CCall}
use Rattle.c_ast.specs.declared.stmt.CStmt.{CStmt}
use Rattle.c_ast.specs.declared.stmt.CStmt.TheOpen.{CStmt-F}
use Rattle.c_ast.specs.declared.stmt.CStmt.TheFolds.{fold-CStmt}
use Rattle.c_ast.specs.declared.unit.CObject.{CObject}
use Rattle.c_ast.specs.declared.unit.CFunction.{CFunction}
use Rattle.c_ast.specs.declared.unit.CUnit.{CUnit}

abbrev pub expr_step : CExpr-F Expr Place → Expr
expr_step (CExpr-F.Number v s) = syntax.Number v s
expr_step (CExpr-F.Read p) = syntax.Read p
expr_step (CExpr-F.Address p) = syntax.Address p
expr_step (CExpr-F.Unary op e) = syntax.Unary op e
expr_step (CExpr-F.Binary op a b) = syntax.Binary op a b
expr_step (CExpr-F.Cast t e) = syntax.Cast t e
expr_step (CExpr-F.Cond c a b) = syntax.Cond c a b

abbrev pub place_step : CPlace-F Expr Place → Place
place_step (CPlace-F.Var x) = syntax.Var x
place_step (CPlace-F.At e) = syntax.At e
place_step (CPlace-F.Member p m) = syntax.Member p m
place_step (CPlace-F.Element p e) = syntax.Element p e

abbrev pub expr_of : CExpr → Expr
expr_of = fold-CExpr Expr Place expr_step place_step

abbrev pub place_of : CPlace → Place
place_of = fold-CPlace Expr Place expr_step place_step

abbrev pub inits_from : List Init → Inits
inits_from [] = NoInits
inits_from (i ∷ is) = MoreInits i (inits_from is)

abbrev pub init_step : CInit-F Init → Init
init_step (CInit-F.One e) = syntax.One (expr_of e)
init_step CInit-F.Zero = syntax.Zero
init_step (CInit-F.Many is) = syntax.Many (inits_from is)

abbrev pub init_of : CInit → Init
init_of = fold-CInit Init init_step

abbrev pub inits_of : List CInit → Inits
inits_of is = inits_from (map init_of is)

abbrev pub call_of : CCall → FunctionCall
call_of c = record { name = c.name; args = map expr_of c.args }

abbrev pub stmts_from : List Stmt → Stmts
stmts_from [] = Nil
stmts_from (s ∷ ss) = Cons s (stmts_from ss)

-- an `if` with or without `else`
abbrev pub if_from : Expr → Stmts → Option (List Stmt) → Stmt
if_from e a None = syntax.If e a
if_from e a (Some b) = syntax.IfElse e a (stmts_from b)

abbrev pub stmt_step : CStmt-F Stmt → Stmt
stmt_step (CStmt-F.Const x t e) = syntax.Const x t (expr_of e)
stmt_step (CStmt-F.ConstCall x t c) = syntax.ConstCall x t (call_of c)
stmt_step (CStmt-F.Object x b i) = syntax.Object x b (option_map init_of i)
stmt_step (CStmt-F.Assign p e) = syntax.Assign (place_of p) (expr_of e)
stmt_step (CStmt-F.If e a b) = if_from (expr_of e) (stmts_from a) b
stmt_step (CStmt-F.Forever a) = syntax.Forever (stmts_from a)
stmt_step CStmt-F.Break = syntax.Break
stmt_step (CStmt-F.Return e) = syntax.Return (option_map expr_of e)
stmt_step (CStmt-F.Block a) = syntax.Block (stmts_from a)
stmt_step (CStmt-F.Call c) = syntax.Call (call_of c)

abbrev pub stmt_of : CStmt → Stmt
stmt_of = fold-CStmt Stmt stmt_step

abbrev pub stmts_of : List CStmt → Stmts
stmts_of ss = stmts_from (map stmt_of ss)

abbrev pub object_of : CObject → FileObject
object_of o = record { name = o.name; constant = o.constant; base = o.base; init = init_of o.init }

abbrev pub function_of : CFunction → Function
function_of f = record { hidden = f.hidden; name = f.name; params = f.params; result = f.result; body = stmts_of f.body }

abbrev pub unit_of : CUnit → TranslationUnit
unit_of u = record { structs = u.structs; externs = u.externs; objects = map object_of u.objects; functions = map function_of u.functions }
