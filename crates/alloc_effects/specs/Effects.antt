-- Which effects stand in a block, also where they are not reached: an alloc, a return, a break of the loop around the block.
-- A break in the body of an inner loop leaves that loop alone.
use Rattle.std.specs.Prelude.{true, false, ◌||◌}
use Rattle.ivory_tree.specs.Syntax.{StmtSyntax, Let, LetCall, Alloc, Store, Copy, Call, If, IfElse, Map, Upto, Downto, Forever, Break, Return, Assert, NoAlloc, NoBreak, NoReturn, BlockSyntax, Braces, StmtsSyntax, NoStmts, MoreStmts}
use Rattle.alloc_effects.specs.declared.effects.Effects.{Effects}

abbrev pub none : Effects
none = record { allocs = false; breaks = false; returns = false }

abbrev pub an_alloc : Effects
an_alloc = record none { allocs = true }

abbrev pub a_break : Effects
a_break = record none { breaks = true }

abbrev pub a_return : Effects
a_return = record none { returns = true }

abbrev pub either : Effects → Effects → Effects
either a b = record { allocs = a.allocs || b.allocs; breaks = a.breaks || b.breaks; returns = a.returns || b.returns }

-- a loop of such a body
abbrev pub of_loop : Effects → Effects
of_loop body = record body { breaks = false }

abbrev mutual
  pub stmt_effects : StmtSyntax → Effects
  stmt_effects (Let s name value) = none
  stmt_effects (LetCall s name call) = none
  stmt_effects (Alloc s name area init) = an_alloc
  stmt_effects (Store s target value) = none
  stmt_effects (Copy s target source) = none
  stmt_effects (Call s call) = none
  stmt_effects (If s test first) = block_effects first
  stmt_effects (IfElse s test first second) = either (block_effects first) (block_effects second)
  stmt_effects (Map s name length body) = of_loop (block_effects body)
  stmt_effects (Upto s name length bound body) = of_loop (block_effects body)
  stmt_effects (Downto s name length bound body) = of_loop (block_effects body)
  stmt_effects (Forever s body) = of_loop (block_effects body)
  stmt_effects (Break s) = a_break
  stmt_effects (Return s value) = a_return
  stmt_effects (Assert s cond) = none
  stmt_effects (NoAlloc s body) = block_effects body
  stmt_effects (NoBreak s body) = block_effects body
  stmt_effects (NoReturn s body) = block_effects body

  pub block_effects : BlockSyntax → Effects
  block_effects (Braces s stmts) = stmts_effects stmts

  pub stmts_effects : StmtsSyntax → Effects
  stmts_effects NoStmts = none
  stmts_effects (MoreStmts s ss) = either (stmt_effects s) (stmts_effects ss)
