-- Whether what follows a statement can be reached. A block falls through where each of its statements does.
use Rattle.std.specs.Prelude.{Bool, true, false, ◌||◌, ◌&&◌}
use Rattle.ivory_tree.specs.Syntax.{StmtSyntax, IfElse, Forever, Break, Return, NoAlloc, NoBreak, NoReturn, BlockSyntax, Braces, StmtsSyntax, NoStmts, MoreStmts}
use Rattle.control_effects.specs.Breaks.{block_breaks}

abbrev mutual
  -- a `forever` is left by a break of its own alone
  pub stmt_falls : StmtSyntax → Bool
  stmt_falls (IfElse s test first second) = block_falls first || block_falls second
  stmt_falls (Forever s body) = block_breaks body
  stmt_falls (Break s) = false
  stmt_falls (Return s value) = false
  stmt_falls (NoAlloc s body) = block_falls body
  stmt_falls (NoBreak s body) = block_falls body
  stmt_falls (NoReturn s body) = block_falls body
  stmt_falls _ = true

  pub block_falls : BlockSyntax → Bool
  block_falls (Braces s stmts) = stmts_fall stmts

  pub stmts_fall : StmtsSyntax → Bool
  stmts_fall NoStmts = true
  stmts_fall (MoreStmts s ss) = stmt_falls s && stmts_fall ss
