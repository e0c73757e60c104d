-- What each form of a tree says in the abstract syntax: one equation for each variant.
use Rattle.std.proofs.Common.{◌≡◌, ℕ, List, ap, sym, ◌∙◌}
use Rattle.std.specs.Prelude.{Option, Some, None}
use Rattle.std.specs.Option.{option_map}
use Rattle.c_ast.specs.Syntax as syntax
use Rattle.c_ast.specs.Syntax.{Name, Expr, Place, Init, Stmt}
use Rattle.c_ast.specs.View.{expr_of, place_of, init_of, inits_of, call_of, stmt_of, stmts_of, expr_step, place_step, init_step, stmt_step}
use Rattle.c_ast.specs.declared.types.CBase.{CBase}
use Rattle.c_ast.specs.declared.types.CType.{CType}
use Rattle.c_ast.specs.declared.expr.Suffix.{Suffix}
use Rattle.c_ast.specs.declared.expr.CUnary.{CUnary}
use Rattle.c_ast.specs.declared.expr.CBinary.{CBinary}
use Rattle.c_ast.specs.declared.expr.CExpr.{CExpr}
use Rattle.c_ast.specs.declared.expr.CExpr.TheOpen.{CExpr-F, CPlace-F}
use Rattle.c_ast.specs.declared.expr.CExpr.TheFolds.{fold-roll-CExpr, fold-roll-CPlace}
use Rattle.c_ast.specs.declared.expr.CExpr.TheVariants as expr
use Rattle.c_ast.specs.declared.expr.CPlace.{CPlace}
use Rattle.c_ast.specs.declared.expr.CPlace.TheVariants as place
use Rattle.c_ast.specs.declared.expr.CInit.{CInit}
use Rattle.c_ast.specs.declared.expr.CInit.TheOpen.{CInit-F}
use Rattle.c_ast.specs.declared.expr.CInit.TheFolds.{fold-roll-CInit}
use Rattle.c_ast.specs.declared.expr.CInit.TheVariants as init
use Rattle.c_ast.specs.declared.stmt.CCall.{CCall}
use Rattle.c_ast.specs.declared.stmt.CStmt.{CStmt}
use Rattle.c_ast.specs.declared.stmt.CStmt.TheOpen.{CStmt-F}
use Rattle.c_ast.specs.declared.stmt.CStmt.TheFolds.{fold-roll-CStmt}
use Rattle.c_ast.specs.declared.stmt.CStmt.TheVariants as stmt

-- expressions

pub number_is : (v : ℕ) (s : Suffix) → expr_of (expr.Number v s) ≡ syntax.Number v s
number_is v s = ap expr_of (sym (expr.rolls-Number v s)) ∙ fold-roll-CExpr Expr Place expr_step place_step (CExpr-F.Number v s)

pub read_is : (p : CPlace) → expr_of (expr.Read p) ≡ syntax.Read (place_of p)
read_is p = ap expr_of (sym (expr.rolls-Read p)) ∙ fold-roll-CExpr Expr Place expr_step place_step (CExpr-F.Read p)

pub address_is : (p : CPlace) → expr_of (expr.Address p) ≡ syntax.Address (place_of p)
address_is p = ap expr_of (sym (expr.rolls-Address p)) ∙ fold-roll-CExpr Expr Place expr_step place_step (CExpr-F.Address p)

pub unary_is : (op : CUnary) (e : CExpr) → expr_of (expr.Unary op e) ≡ syntax.Unary op (expr_of e)
unary_is op e = ap expr_of (sym (expr.rolls-Unary op e)) ∙ fold-roll-CExpr Expr Place expr_step place_step (CExpr-F.Unary op e)

pub binary_is : (op : CBinary) (a b : CExpr) → expr_of (expr.Binary op a b) ≡ syntax.Binary op (expr_of a) (expr_of b)
binary_is op a b = ap expr_of (sym (expr.rolls-Binary op a b)) ∙ fold-roll-CExpr Expr Place expr_step place_step (CExpr-F.Binary op a b)

pub cast_is : (t : CType) (e : CExpr) → expr_of (expr.Cast t e) ≡ syntax.Cast t (expr_of e)
cast_is t e = ap expr_of (sym (expr.rolls-Cast t e)) ∙ fold-roll-CExpr Expr Place expr_step place_step (CExpr-F.Cast t e)

pub cond_is : (c a b : CExpr) → expr_of (expr.Cond c a b) ≡ syntax.Cond (expr_of c) (expr_of a) (expr_of b)
cond_is c a b = ap expr_of (sym (expr.rolls-Cond c a b)) ∙ fold-roll-CExpr Expr Place expr_step place_step (CExpr-F.Cond c a b)

-- places

pub var_is : (x : Name) → place_of (place.Var x) ≡ syntax.Var x
var_is x = ap place_of (sym (place.rolls-Var x)) ∙ fold-roll-CPlace Expr Place expr_step place_step (CPlace-F.Var x)

pub at_is : (e : CExpr) → place_of (place.At e) ≡ syntax.At (expr_of e)
at_is e = ap place_of (sym (place.rolls-At e)) ∙ fold-roll-CPlace Expr Place expr_step place_step (CPlace-F.At e)

pub member_is : (p : CPlace) (m : Name) → place_of (place.Member p m) ≡ syntax.Member (place_of p) m
member_is p m = ap place_of (sym (place.rolls-Member p m)) ∙ fold-roll-CPlace Expr Place expr_step place_step (CPlace-F.Member p m)

pub element_is : (p : CPlace) (e : CExpr) → place_of (place.Element p e) ≡ syntax.Element (place_of p) (expr_of e)
element_is p e = ap place_of (sym (place.rolls-Element p e)) ∙ fold-roll-CPlace Expr Place expr_step place_step (CPlace-F.Element p e)

-- initializers

pub one_is : (e : CExpr) → init_of (init.One e) ≡ syntax.One (expr_of e)
one_is e = ap init_of (sym (init.rolls-One e)) ∙ fold-roll-CInit Init init_step (CInit-F.One e)

pub zero_is : init_of init.Zero ≡ syntax.Zero
zero_is = ap init_of (sym init.rolls-Zero) ∙ fold-roll-CInit Init init_step CInit-F.Zero

pub many_is : (is : List CInit) → init_of (init.Many is) ≡ syntax.Many (inits_of is)
many_is is = ap init_of (sym (init.rolls-Many is)) ∙ fold-roll-CInit Init init_step (CInit-F.Many is)

-- statements

pub const_is : (x : Name) (t : CType) (e : CExpr) → stmt_of (stmt.Const x t e) ≡ syntax.Const x t (expr_of e)
const_is x t e = ap stmt_of (sym (stmt.rolls-Const x t e)) ∙ fold-roll-CStmt Stmt stmt_step (CStmt-F.Const x t e)

pub const_call_is : (x : Name) (t : CType) (c : CCall) → stmt_of (stmt.ConstCall x t c) ≡ syntax.ConstCall x t (call_of c)
const_call_is x t c = ap stmt_of (sym (stmt.rolls-ConstCall x t c)) ∙ fold-roll-CStmt Stmt stmt_step (CStmt-F.ConstCall x t c)

pub object_is : (x : Name) (b : CBase) (i : Option CInit) → stmt_of (stmt.Object x b i) ≡ syntax.Object x b (option_map init_of i)
object_is x b i = ap stmt_of (sym (stmt.rolls-Object x b i)) ∙ fold-roll-CStmt Stmt stmt_step (CStmt-F.Object x b i)

pub assign_is : (p : CPlace) (e : CExpr) → stmt_of (stmt.Assign p e) ≡ syntax.Assign (place_of p) (expr_of e)
assign_is p e = ap stmt_of (sym (stmt.rolls-Assign p e)) ∙ fold-roll-CStmt Stmt stmt_step (CStmt-F.Assign p e)

pub if_is : (e : CExpr) (a : List CStmt) → stmt_of (stmt.If e a None) ≡ syntax.If (expr_of e) (stmts_of a)
if_is e a = ap stmt_of (sym (stmt.rolls-If e a None)) ∙ fold-roll-CStmt Stmt stmt_step (CStmt-F.If e a None)

pub if_else_is : (e : CExpr) (a b : List CStmt) → stmt_of (stmt.If e a (Some b)) ≡ syntax.IfElse (expr_of e) (stmts_of a) (stmts_of b)
if_else_is e a b = ap stmt_of (sym (stmt.rolls-If e a (Some b))) ∙ fold-roll-CStmt Stmt stmt_step (CStmt-F.If e a (Some b))

pub forever_is : (a : List CStmt) → stmt_of (stmt.Forever a) ≡ syntax.Forever (stmts_of a)
forever_is a = ap stmt_of (sym (stmt.rolls-Forever a)) ∙ fold-roll-CStmt Stmt stmt_step (CStmt-F.Forever a)

pub break_is : stmt_of stmt.Break ≡ syntax.Break
break_is = ap stmt_of (sym stmt.rolls-Break) ∙ fold-roll-CStmt Stmt stmt_step CStmt-F.Break

pub return_is : (e : Option CExpr) → stmt_of (stmt.Return e) ≡ syntax.Return (option_map expr_of e)
return_is e = ap stmt_of (sym (stmt.rolls-Return e)) ∙ fold-roll-CStmt Stmt stmt_step (CStmt-F.Return e)

pub block_is : (a : List CStmt) → stmt_of (stmt.Block a) ≡ syntax.Block (stmts_of a)
block_is a = ap stmt_of (sym (stmt.rolls-Block a)) ∙ fold-roll-CStmt Stmt stmt_step (CStmt-F.Block a)

pub call_is : (c : CCall) → stmt_of (stmt.Call c) ≡ syntax.Call (call_of c)
call_is c = ap stmt_of (sym (stmt.rolls-Call c)) ∙ fold-roll-CStmt Stmt stmt_step (CStmt-F.Call c)
