-- Whether a break of the loop around a block stands in it, also where it is not reached. A break in an inner loop leaves that loop.
use Rattle.std.specs.Prelude.{Bool, true, false, ◌||◌}
use Rattle.ivory_tree.specs.Syntax.{StmtSyntax, If, IfElse, Break, NoAlloc, NoBreak, NoReturn, BlockSyntax, Braces, StmtsSyntax, NoStmts, MoreStmts}

abbrev mutual
  pub stmt_breaks : StmtSyntax → Bool
  stmt_breaks (If s test first) = block_breaks first
  stmt_breaks (IfElse s test first second) = block_breaks first || block_breaks second
  stmt_breaks (Break s) = true
  stmt_breaks (NoAlloc s body) = block_breaks body
  stmt_breaks (NoBreak s body) = block_breaks body
  stmt_breaks (NoReturn s body) = block_breaks body
  stmt_breaks _ = false

  pub block_breaks : BlockSyntax → Bool
  block_breaks (Braces s stmts) = stmts_break stmts

  pub stmts_break : StmtsSyntax → Bool
  stmts_break NoStmts = false
  stmts_break (MoreStmts s ss) = stmt_breaks s || stmts_break ss
