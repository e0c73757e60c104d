-- Checks numbered one after another in initializers, calls, statements, contracts and procedures, in the order in which they stand in a core.
use Rattle.std.specs.Prelude.{ℕ, ◌+◌, List, [], ◌∷◌, Option, Some, None}
use Rattle.core_tree.specs.Syntax as core
use Rattle.core_tree.specs.Syntax.{ExprCore, InitCore, InitsCore, CallCore, StmtCore, StmtsCore, ContractCore, ProcCore}
use Rattle.core_tree.specs.declared.Check.{Check}
use Rattle.check_numbers.specs.Numbered.{expr_from, expr_after}

-- ---- initializers

abbrev mutual
  pub init_after : ℕ → InitCore → ℕ
  init_after n (core.One e) = expr_after n e
  init_after n (core.Many inits) = inits_after n inits

  pub inits_after : ℕ → InitsCore → ℕ
  inits_after n core.NoInits = n
  inits_after n (core.MoreInits i is) = inits_after (init_after n i) is

abbrev mutual
  pub init_from : ℕ → InitCore → InitCore
  init_from n (core.One e) = core.One (expr_from n e)
  init_from n (core.Many inits) = core.Many (inits_from n inits)

  pub inits_from : ℕ → InitsCore → InitsCore
  inits_from n core.NoInits = core.NoInits
  inits_from n (core.MoreInits i is) = core.MoreInits (init_from n i) (inits_from (init_after n i) is)

abbrev pub maybe_init_after : ℕ → Option InitCore → ℕ
maybe_init_after n None = n
maybe_init_after n (Some i) = init_after n i

abbrev pub maybe_init_from : ℕ → Option InitCore → Option InitCore
maybe_init_from n None = None
maybe_init_from n (Some i) = Some (init_from n i)

-- ---- calls

abbrev pub exprs_after : ℕ → List ExprCore → ℕ
exprs_after n [] = n
exprs_after n (e ∷ es) = exprs_after (expr_after n e) es

abbrev pub exprs_from : ℕ → List ExprCore → List ExprCore
exprs_from n [] = []
exprs_from n (e ∷ es) = expr_from n e ∷ exprs_from (expr_after n e) es

abbrev pub call_after : ℕ → CallCore → ℕ
call_after n c = exprs_after n c.args

abbrev pub call_from : ℕ → CallCore → CallCore
call_from n c = record { import = c.import; callee = c.callee; args = exprs_from n c.args }

-- ---- statements

abbrev pub maybe_after : ℕ → Option ExprCore → ℕ
maybe_after n None = n
maybe_after n (Some e) = expr_after n e

abbrev pub maybe_from : ℕ → Option ExprCore → Option ExprCore
maybe_from n None = None
maybe_from n (Some e) = Some (expr_from n e)

abbrev pub check_from : ℕ → Check → Check
check_from n c = record { site = n; kind = c.kind; span = c.span }

abbrev mutual
  pub stmt_after : ℕ → StmtCore → ℕ
  stmt_after n (core.Let number e) = expr_after n e
  stmt_after n (core.LetCall number call) = call_after n call
  stmt_after n (core.Alloc number area init) = maybe_init_after n init
  stmt_after n (core.Store target value) = expr_after (expr_after n target) value
  stmt_after n (core.Copy target source) = expr_after (expr_after n target) source
  stmt_after n (core.Call call) = call_after n call
  stmt_after n (core.If test first) = stmts_after (expr_after n test) first
  stmt_after n (core.IfElse test first second) = stmts_after (stmts_after (expr_after n test) first) second
  stmt_after n (core.Map number length body) = stmts_after n body
  stmt_after n (core.Upto number length bound body) = stmts_after (expr_after n bound) body
  stmt_after n (core.Downto number length bound body) = stmts_after (expr_after n bound) body
  stmt_after n (core.Forever body) = stmts_after n body
  stmt_after n core.Break = n
  stmt_after n (core.Return value) = maybe_after n value
  stmt_after n (core.Assert cond check) = expr_after (n + 1) cond
  stmt_after n (core.NoAlloc body) = stmts_after n body
  stmt_after n (core.NoBreak body) = stmts_after n body
  stmt_after n (core.NoReturn body) = stmts_after n body

  pub stmts_after : ℕ → StmtsCore → ℕ
  stmts_after n core.NoStmts = n
  stmts_after n (core.MoreStmts s ss) = stmts_after (stmt_after n s) ss

abbrev mutual
  pub stmt_from : ℕ → StmtCore → StmtCore
  stmt_from n (core.Let number e) = core.Let number (expr_from n e)
  stmt_from n (core.LetCall number call) = core.LetCall number (call_from n call)
  stmt_from n (core.Alloc number area init) = core.Alloc number area (maybe_init_from n init)
  stmt_from n (core.Store target value) = core.Store (expr_from n target) (expr_from (expr_after n target) value)
  stmt_from n (core.Copy target source) = core.Copy (expr_from n target) (expr_from (expr_after n target) source)
  stmt_from n (core.Call call) = core.Call (call_from n call)
  stmt_from n (core.If test first) = core.If (expr_from n test) (stmts_from (expr_after n test) first)
  stmt_from n (core.IfElse test first second) = core.IfElse (expr_from n test) (stmts_from (expr_after n test) first) (stmts_from (stmts_after (expr_after n test) first) second)
  stmt_from n (core.Map number length body) = core.Map number length (stmts_from n body)
  stmt_from n (core.Upto number length bound body) = core.Upto number length (expr_from n bound) (stmts_from (expr_after n bound) body)
  stmt_from n (core.Downto number length bound body) = core.Downto number length (expr_from n bound) (stmts_from (expr_after n bound) body)
  stmt_from n (core.Forever body) = core.Forever (stmts_from n body)
  stmt_from n core.Break = core.Break
  stmt_from n (core.Return value) = core.Return (maybe_from n value)
  stmt_from n (core.Assert cond check) = core.Assert (expr_from (n + 1) cond) (check_from n check)
  stmt_from n (core.NoAlloc body) = core.NoAlloc (stmts_from n body)
  stmt_from n (core.NoBreak body) = core.NoBreak (stmts_from n body)
  stmt_from n (core.NoReturn body) = core.NoReturn (stmts_from n body)

  pub stmts_from : ℕ → StmtsCore → StmtsCore
  stmts_from n core.NoStmts = core.NoStmts
  stmts_from n (core.MoreStmts s ss) = core.MoreStmts (stmt_from n s) (stmts_from (stmt_after n s) ss)

-- ---- contracts

abbrev pub contract_after : ℕ → ContractCore → ℕ
contract_after n c = expr_after (n + 1) c.cond

abbrev pub contract_from : ℕ → ContractCore → ContractCore
contract_from n c = record { before = c.before; cond = expr_from (n + 1) c.cond; check = check_from n c.check }

abbrev pub contracts_after : ℕ → List ContractCore → ℕ
contracts_after n [] = n
contracts_after n (c ∷ cs) = contracts_after (contract_after n c) cs

abbrev pub contracts_from : ℕ → List ContractCore → List ContractCore
contracts_from n [] = []
contracts_from n (c ∷ cs) = contract_from n c ∷ contracts_from (contract_after n c) cs

-- ---- procedures

abbrev pub proc_after : ℕ → ProcCore → ℕ
proc_after n p = stmts_after (contracts_after n p.contracts) p.body

abbrev pub proc_from : ℕ → ProcCore → ProcCore
proc_from n p = record {
  name = p.name;
  exported = p.exported;
  params = p.params;
  result = p.result;
  contracts = contracts_from n p.contracts;
  locals = p.locals;
  body = stmts_from (contracts_after n p.contracts) p.body;
}

abbrev pub procs_after : ℕ → List ProcCore → ℕ
procs_after n [] = n
procs_after n (p ∷ ps) = procs_after (proc_after n p) ps

abbrev pub procs_from : ℕ → List ProcCore → List ProcCore
procs_from n [] = []
procs_from n (p ∷ ps) = proc_from n p ∷ procs_from (proc_after n p) ps
