-- All checks of a core, in any order: Sites orders them.
use Rattle.std.specs.Prelude.{List, [], ◌∷◌, ◌++◌, Some, None}
use Rattle.std.specs.List.{flat_map}
use Rattle.core_tree.specs.declared.check.Check.{Check}
use Rattle.core_tree.specs.Syntax.{ExprCore, Number, Outcome, Local, AreaName, Cast, ToIndex, WrapIndex, MakeBits, Raw, SetField, Prefix, Binary, Field, Element, Cond, Whole, InitCore, One, Many, InitsCore, NoInits, MoreInits, CallCore, StmtCore, Let, LetCall, Alloc, Store, Copy, Call, If, IfElse, Map, Upto, Downto, Forever, Break, Return, Assert, NoAlloc, NoBreak, NoReturn, StmtsCore, NoStmts, MoreStmts, ContractCore, ProcCore, ModuleCore}

abbrev pub expr_checks : ExprCore → List Check
expr_checks (Number l value) = l.checks
expr_checks (Outcome l) = l.checks
expr_checks (Local l number) = l.checks
expr_checks (AreaName l number) = l.checks
expr_checks (Cast l e) = l.checks ++ expr_checks e
expr_checks (ToIndex l e) = l.checks ++ expr_checks e
expr_checks (WrapIndex l e) = l.checks ++ expr_checks e
expr_checks (MakeBits l e) = l.checks ++ expr_checks e
expr_checks (Raw l e) = l.checks ++ expr_checks e
expr_checks (SetField l e field value) = l.checks ++ (expr_checks e ++ expr_checks value)
expr_checks (Prefix l op e) = l.checks ++ expr_checks e
expr_checks (Binary l op left right) = expr_checks left ++ (l.checks ++ expr_checks right)
expr_checks (Field l e field) = expr_checks e ++ l.checks
expr_checks (Element l e index) = expr_checks e ++ (l.checks ++ expr_checks index)
expr_checks (Cond l test first second) = expr_checks test ++ (l.checks ++ (expr_checks first ++ expr_checks second))
expr_checks (Whole l e) = expr_checks e ++ l.checks

abbrev mutual
  pub init_checks : InitCore → List Check
  init_checks (One e) = expr_checks e
  init_checks (Many inits) = inits_checks inits

  pub inits_checks : InitsCore → List Check
  inits_checks NoInits = []
  inits_checks (MoreInits i is) = init_checks i ++ inits_checks is

abbrev pub call_checks : CallCore → List Check
call_checks c = flat_map expr_checks c.args

abbrev mutual
  pub stmt_checks : StmtCore → List Check
  stmt_checks (Let number value) = expr_checks value
  stmt_checks (LetCall number call) = call_checks call
  stmt_checks (Alloc number area None) = []
  stmt_checks (Alloc number area (Some init)) = init_checks init
  stmt_checks (Store target value) = expr_checks target ++ expr_checks value
  stmt_checks (Copy target source) = expr_checks target ++ expr_checks source
  stmt_checks (Call call) = call_checks call
  stmt_checks (If test first) = expr_checks test ++ stmts_checks first
  stmt_checks (IfElse test first second) = expr_checks test ++ (stmts_checks first ++ stmts_checks second)
  stmt_checks (Map number length body) = stmts_checks body
  stmt_checks (Upto number length bound body) = expr_checks bound ++ stmts_checks body
  stmt_checks (Downto number length bound body) = expr_checks bound ++ stmts_checks body
  stmt_checks (Forever body) = stmts_checks body
  stmt_checks Break = []
  stmt_checks (Return None) = []
  stmt_checks (Return (Some value)) = expr_checks value
  stmt_checks (Assert cond check) = check ∷ expr_checks cond
  stmt_checks (NoAlloc body) = stmts_checks body
  stmt_checks (NoBreak body) = stmts_checks body
  stmt_checks (NoReturn body) = stmts_checks body

  pub stmts_checks : StmtsCore → List Check
  stmts_checks NoStmts = []
  stmts_checks (MoreStmts s ss) = stmt_checks s ++ stmts_checks ss

abbrev pub contract_checks : ContractCore → List Check
contract_checks c = c.check ∷ expr_checks c.cond

abbrev pub proc_checks : ProcCore → List Check
proc_checks p = flat_map contract_checks p.contracts ++ stmts_checks p.body

abbrev pub checks_of : ModuleCore → List Check
checks_of m = flat_map proc_checks m.procs
