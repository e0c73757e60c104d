-- Cores with other checks: what a function of a check makes of each check of a core. All else stays.
use Rattle.std.specs.Prelude.{map, Option, Some, None}
use Rattle.core_tree.specs.Syntax as core
use Rattle.core_tree.specs.Syntax.{Label, ExprCore, InitCore, InitsCore, CallCore, StmtCore, StmtsCore, ContractCore, ProcCore}
use Rattle.core_tree.specs.declared.Check.{Check}

abbrev pub label_by : (Check → Check) → Label → Label
label_by g l = record { ty = l.ty; checks = map g l.checks }

abbrev pub expr_by : (Check → Check) → ExprCore → ExprCore
expr_by g (core.Number l value) = core.Number (label_by g l) value
expr_by g (core.Outcome l) = core.Outcome (label_by g l)
expr_by g (core.Local l number) = core.Local (label_by g l) number
expr_by g (core.AreaName l number) = core.AreaName (label_by g l) number
expr_by g (core.Cast l e) = core.Cast (label_by g l) (expr_by g e)
expr_by g (core.ToIndex l e) = core.ToIndex (label_by g l) (expr_by g e)
expr_by g (core.WrapIndex l e) = core.WrapIndex (label_by g l) (expr_by g e)
expr_by g (core.MakeBits l e) = core.MakeBits (label_by g l) (expr_by g e)
expr_by g (core.Raw l e) = core.Raw (label_by g l) (expr_by g e)
expr_by g (core.SetField l e field value) = core.SetField (label_by g l) (expr_by g e) field (expr_by g value)
expr_by g (core.Prefix l op e) = core.Prefix (label_by g l) op (expr_by g e)
expr_by g (core.Binary l op left right) = core.Binary (label_by g l) op (expr_by g left) (expr_by g right)
expr_by g (core.Field l e field) = core.Field (label_by g l) (expr_by g e) field
expr_by g (core.Element l e index) = core.Element (label_by g l) (expr_by g e) (expr_by g index)
expr_by g (core.Cond l test first second) = core.Cond (label_by g l) (expr_by g test) (expr_by g first) (expr_by g second)
expr_by g (core.Whole l e) = core.Whole (label_by g l) (expr_by g e)

abbrev mutual
  pub init_by : (Check → Check) → InitCore → InitCore
  init_by g (core.One e) = core.One (expr_by g e)
  init_by g (core.Many inits) = core.Many (inits_by g inits)

  pub inits_by : (Check → Check) → InitsCore → InitsCore
  inits_by g core.NoInits = core.NoInits
  inits_by g (core.MoreInits i is) = core.MoreInits (init_by g i) (inits_by g is)

abbrev pub maybe_init_by : (Check → Check) → Option InitCore → Option InitCore
maybe_init_by g None = None
maybe_init_by g (Some i) = Some (init_by g i)

abbrev pub maybe_by : (Check → Check) → Option ExprCore → Option ExprCore
maybe_by g None = None
maybe_by g (Some e) = Some (expr_by g e)

abbrev pub call_by : (Check → Check) → CallCore → CallCore
call_by g c = record { import = c.import; callee = c.callee; args = map (expr_by g) c.args }

abbrev mutual
  pub stmt_by : (Check → Check) → StmtCore → StmtCore
  stmt_by g (core.Let number e) = core.Let number (expr_by g e)
  stmt_by g (core.LetCall number call) = core.LetCall number (call_by g call)
  stmt_by g (core.Alloc number area init) = core.Alloc number area (maybe_init_by g init)
  stmt_by g (core.Store target value) = core.Store (expr_by g target) (expr_by g value)
  stmt_by g (core.Copy target source) = core.Copy (expr_by g target) (expr_by g source)
  stmt_by g (core.Call call) = core.Call (call_by g call)
  stmt_by g (core.If test first) = core.If (expr_by g test) (stmts_by g first)
  stmt_by g (core.IfElse test first second) = core.IfElse (expr_by g test) (stmts_by g first) (stmts_by g second)
  stmt_by g (core.Map number n body) = core.Map number n (stmts_by g body)
  stmt_by g (core.Upto number n bound body) = core.Upto number n (expr_by g bound) (stmts_by g body)
  stmt_by g (core.Downto number n bound body) = core.Downto number n (expr_by g bound) (stmts_by g body)
  stmt_by g (core.Forever body) = core.Forever (stmts_by g body)
  stmt_by g core.Break = core.Break
  stmt_by g (core.Return value) = core.Return (maybe_by g value)
  stmt_by g (core.Assert cond check) = core.Assert (expr_by g cond) (g check)
  stmt_by g (core.NoAlloc body) = core.NoAlloc (stmts_by g body)
  stmt_by g (core.NoBreak body) = core.NoBreak (stmts_by g body)
  stmt_by g (core.NoReturn body) = core.NoReturn (stmts_by g body)

  pub stmts_by : (Check → Check) → StmtsCore → StmtsCore
  stmts_by g core.NoStmts = core.NoStmts
  stmts_by g (core.MoreStmts s ss) = core.MoreStmts (stmt_by g s) (stmts_by g ss)

abbrev pub contract_by : (Check → Check) → ContractCore → ContractCore
contract_by g c = record { before = c.before; cond = expr_by g c.cond; check = g c.check }

abbrev pub proc_by : (Check → Check) → ProcCore → ProcCore
proc_by g p = record { name = p.name; exported = p.exported; params = p.params; result = p.result; contracts = map (contract_by g) p.contracts; locals = p.locals; body = stmts_by g p.body }
