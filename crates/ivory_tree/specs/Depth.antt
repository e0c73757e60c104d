-- How deep a tree is: the most of its blocks, right operands of `&&` and `||`, and arms of `?:` that are open at one place.
use Rattle.std.specs.Prelude.{ℕ, ◌+◌, max, List, [], ◌∷◌, map, Option, Some, None}
use Rattle.ivory_tree.specs.Syntax.{ExprSyntax, Literal, Truth, Outcome, Variable, Cast, ToIndex, WrapIndex, MakeBits, Raw, SetField, Prefix, Binary, Field, Element, Cond, Bare, InitSyntax, One, Many, InitsSyntax, NoInits, MoreInits, CallSyntax, StmtSyntax, Let, LetCall, Alloc, Store, Copy, Call, If, IfElse, Map, Upto, Downto, Forever, Break, Return, Assert, NoAlloc, NoBreak, NoReturn, BlockSyntax, Braces, StmtsSyntax, NoStmts, MoreStmts, ContractSyntax, ItemSyntax, BitsData, Struct, Global, Import, Procedure, ModuleSyntax}
use Rattle.ivory_tree.specs.declared.expr.BinOp.{BinOp}
use Rattle.ivory_tree.specs.declared.expr.BinOp.TheVariants.{OrElse, AndAlso}

abbrev pub deepest : List ℕ → ℕ
deepest [] = 0
deepest (n ∷ ns) = max n (deepest ns)

-- the right operand of `&&` or `||` is open from its start to its end
abbrev pub right_depth : BinOp → ℕ → ℕ
right_depth OrElse n = 1 + n
right_depth AndAlso n = 1 + n
right_depth op n = n

abbrev pub expr_depth : ExprSyntax → ℕ
expr_depth (Literal s value) = 0
expr_depth (Truth s value) = 0
expr_depth (Outcome s) = 0
expr_depth (Variable s name) = 0
expr_depth (Cast s kind e) = expr_depth e
expr_depth (ToIndex s length e) = expr_depth e
expr_depth (WrapIndex s length e) = expr_depth e
expr_depth (MakeBits s name e) = expr_depth e
expr_depth (Raw s e) = expr_depth e
expr_depth (SetField s e field value) = max (expr_depth e) (expr_depth value)
expr_depth (Prefix s op e) = expr_depth e
expr_depth (Binary s op at left right) = max (expr_depth left) (right_depth op (expr_depth right))
expr_depth (Field s e field) = expr_depth e
expr_depth (Element s brackets e index) = max (expr_depth e) (expr_depth index)
expr_depth (Cond s test first second) = max (expr_depth test) (1 + max (expr_depth first) (expr_depth second))
expr_depth (Bare s e) = expr_depth e

abbrev mutual
  pub init_depth : InitSyntax → ℕ
  init_depth (One e) = expr_depth e
  init_depth (Many s inits) = inits_depth inits

  pub inits_depth : InitsSyntax → ℕ
  inits_depth NoInits = 0
  inits_depth (MoreInits i is) = max (init_depth i) (inits_depth is)

abbrev pub call_depth : CallSyntax → ℕ
call_depth c = deepest (map expr_depth c.args)

abbrev mutual
  pub stmt_depth : StmtSyntax → ℕ
  stmt_depth (Let s name value) = expr_depth value
  stmt_depth (LetCall s name call) = call_depth call
  stmt_depth (Alloc s name area None) = 0
  stmt_depth (Alloc s name area (Some init)) = init_depth init
  stmt_depth (Store s target value) = max (expr_depth target) (expr_depth value)
  stmt_depth (Copy s target source) = max (expr_depth target) (expr_depth source)
  stmt_depth (Call s call) = call_depth call
  stmt_depth (If s test first) = max (expr_depth test) (block_depth first)
  stmt_depth (IfElse s test first second) = max (expr_depth test) (max (block_depth first) (block_depth second))
  stmt_depth (Map s name length body) = block_depth body
  stmt_depth (Upto s name length bound body) = max (expr_depth bound) (block_depth body)
  stmt_depth (Downto s name length bound body) = max (expr_depth bound) (block_depth body)
  stmt_depth (Forever s body) = block_depth body
  stmt_depth (Break s) = 0
  stmt_depth (Return s None) = 0
  stmt_depth (Return s (Some value)) = expr_depth value
  stmt_depth (Assert s cond) = expr_depth cond
  stmt_depth (NoAlloc s body) = block_depth body
  stmt_depth (NoBreak s body) = block_depth body
  stmt_depth (NoReturn s body) = block_depth body

  pub block_depth : BlockSyntax → ℕ
  block_depth (Braces s stmts) = 1 + stmts_depth stmts

  pub stmts_depth : StmtsSyntax → ℕ
  stmts_depth NoStmts = 0
  stmts_depth (MoreStmts s ss) = max (stmt_depth s) (stmts_depth ss)

abbrev pub contract_depth : ContractSyntax → ℕ
contract_depth c = expr_depth c.cond

abbrev pub first_value_depth : Option InitSyntax → ℕ
first_value_depth None = 0
first_value_depth (Some init) = init_depth init

abbrev pub item_depth : ItemSyntax → ℕ
item_depth (BitsData i) = 0
item_depth (Struct i) = 0
item_depth (Global i) = first_value_depth i.init
item_depth (Import h) = 0
item_depth (Procedure p) = max (deepest (map contract_depth p.contracts)) (block_depth p.body)

abbrev pub module_depth : ModuleSyntax → ℕ
module_depth m = deepest (map item_depth m.items)
