-- How deep the brackets of a unit's text nest: one level for each pair of parentheses, brackets and braces that is written.
use Rattle.std.specs.Prelude.{ℕ, ◌+◌, List, [], ◌∷◌, map, max, Option, Some, None}
use Rattle.c_ast.specs.declared.unit.CMember.{CMember}
use Rattle.c_ast.specs.declared.unit.CStruct.{CStruct}
use Rattle.c_ast.specs.Syntax.{Expr, Number, Read, Address, Unary, Binary, Cast, Cond, Place, Var, At, Member, Element, Init, One, Zero, Many, Inits, NoInits, MoreInits, FunctionCall, Stmt, Const, ConstCall, Object, Assign, If, IfElse, Forever, Break, Return, Block, Call, Stmts, Nil, Cons, FileObject, Function, TranslationUnit}

abbrev pub deepest : List ℕ → ℕ
deepest [] = 0
deepest (n ∷ ns) = max n (deepest ns)

abbrev mutual
  pub expr_nested : Expr → ℕ
  expr_nested (Number v suffix) = 0
  expr_nested (Read place) = place_nested place
  expr_nested (Address place) = place_nested place + 1
  expr_nested (Unary op e) = expr_nested e + 1
  expr_nested (Binary op a b) = max (expr_nested a) (expr_nested b) + 1
  expr_nested (Cast t e) = max 1 (expr_nested e) + 1
  expr_nested (Cond c a b) = max (expr_nested c) (max (expr_nested a) (expr_nested b)) + 1

  pub place_nested : Place → ℕ
  place_nested (Var x) = 0
  place_nested (At e) = expr_nested e + 1
  place_nested (Member place m) = place_nested place
  place_nested (Element place e) = max (place_nested place) (expr_nested e + 1)

abbrev mutual
  pub init_nested : Init → ℕ
  init_nested (One e) = expr_nested e
  init_nested Zero = 1
  init_nested (Many is) = inits_nested is + 1

  pub inits_nested : Inits → ℕ
  inits_nested NoInits = 0
  inits_nested (MoreInits i is) = max (init_nested i) (inits_nested is)

abbrev pub call_nested : FunctionCall → ℕ
call_nested c = deepest (map expr_nested c.args) + 1

abbrev pub first_value_nested : Option Init → ℕ
first_value_nested None = 0
first_value_nested (Some i) = init_nested i

abbrev pub return_nested : Option Expr → ℕ
return_nested None = 0
return_nested (Some e) = expr_nested e

abbrev mutual
  pub stmt_nested : Stmt → ℕ
  stmt_nested (Const x t e) = expr_nested e
  stmt_nested (ConstCall x t c) = call_nested c
  stmt_nested (Object x b i) = first_value_nested i
  stmt_nested (Assign place e) = max (place_nested place) (expr_nested e)
  stmt_nested (If e a) = max (expr_nested e) (stmts_nested a) + 1
  stmt_nested (IfElse e a b) = max (expr_nested e) (max (stmts_nested a) (stmts_nested b)) + 1
  stmt_nested (Forever a) = stmts_nested a + 1
  stmt_nested Break = 0
  stmt_nested (Return e) = return_nested e
  stmt_nested (Block a) = stmts_nested a + 1
  stmt_nested (Call c) = call_nested c

  pub stmts_nested : Stmts → ℕ
  stmts_nested Nil = 0
  stmts_nested (Cons s rest) = max (stmt_nested s) (stmts_nested rest)

-- the length of a member stands in brackets within the braces
abbrev pub length_nested : Option ℕ → ℕ
length_nested None = 0
length_nested (Some n) = 1

abbrev pub member_nested : CMember → ℕ
member_nested m = length_nested m.length

abbrev pub struct_nested : CStruct → ℕ
struct_nested s = deepest (map member_nested s.members) + 1

abbrev pub object_nested : FileObject → ℕ
object_nested o = init_nested o.init

abbrev pub function_nested : Function → ℕ
function_nested f = stmts_nested f.body + 1

-- one for the parentheses of the third line, and of each extern
abbrev pub nested : TranslationUnit → ℕ
nested u = max 1 (max (deepest (map struct_nested u.structs)) (max (deepest (map object_nested u.objects)) (deepest (map function_nested u.functions))))
