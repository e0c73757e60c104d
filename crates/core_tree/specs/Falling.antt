-- Whether what follows a statement can be reached. A list of statements falls through where each of them does. A loop of a counter
-- falls through, and a `forever` where a break of its own stands in it, reached or not: a break in an inner loop leaves that loop.
use Rattle.std.specs.Prelude.{Bool, true, false, ◌||◌, ◌&&◌}
use Rattle.core_tree.specs.Syntax.{StmtCore, Let, LetCall, Alloc, Store, Copy, Call, If, IfElse, Map, Upto, Downto, Forever, Break, Return, Assert, NoAlloc, NoBreak, NoReturn, StmtsCore, NoStmts, MoreStmts}

abbrev mutual
  pub stmt_breaks : StmtCore → Bool
  stmt_breaks (If test first) = stmts_break first
  stmt_breaks (IfElse test first second) = stmts_break first || stmts_break second
  stmt_breaks Break = true
  stmt_breaks (NoAlloc body) = stmts_break body
  stmt_breaks (NoBreak body) = stmts_break body
  stmt_breaks (NoReturn body) = stmts_break body
  stmt_breaks (Let number value) = false
  stmt_breaks (LetCall number call) = false
  stmt_breaks (Alloc number area init) = false
  stmt_breaks (Store target value) = false
  stmt_breaks (Copy target source) = false
  stmt_breaks (Call call) = false
  stmt_breaks (Map number length body) = false
  stmt_breaks (Upto number length bound body) = false
  stmt_breaks (Downto number length bound body) = false
  stmt_breaks (Forever body) = false
  stmt_breaks (Return value) = false
  stmt_breaks (Assert cond check) = false

  pub stmts_break : StmtsCore → Bool
  stmts_break NoStmts = false
  stmts_break (MoreStmts s ss) = stmt_breaks s || stmts_break ss

abbrev mutual
  pub stmt_falls : StmtCore → Bool
  stmt_falls (IfElse test first second) = stmts_fall first || stmts_fall second
  stmt_falls (Forever body) = stmts_break body
  stmt_falls Break = false
  stmt_falls (Return value) = false
  stmt_falls (NoAlloc body) = stmts_fall body
  stmt_falls (NoBreak body) = stmts_fall body
  stmt_falls (NoReturn body) = stmts_fall body
  stmt_falls (Let number value) = true
  stmt_falls (LetCall number call) = true
  stmt_falls (Alloc number area init) = true
  stmt_falls (Store target value) = true
  stmt_falls (Copy target source) = true
  stmt_falls (Call call) = true
  stmt_falls (If test first) = true
  stmt_falls (Map number length body) = true
  stmt_falls (Upto number length bound body) = true
  stmt_falls (Downto number length bound body) = true
  stmt_falls (Assert cond check) = true

  pub stmts_fall : StmtsCore → Bool
  stmts_fall NoStmts = true
  stmts_fall (MoreStmts s ss) = stmt_falls s && stmts_fall ss
