-- The row of nodes of a statement or a block has the places of its tree.
use Rattle.std.proofs.Common.{Bool, true, false, ◌&&◌}
use Rattle.std.specs.Prelude.{Some, None}
use Rattle.ivory_tree.specs.Syntax.{StmtSyntax, Let, LetCall, Alloc, Store, Copy, Call, If, IfElse, Map, Upto, Downto, Forever, Break, Return, Assert, NoAlloc, NoBreak, NoReturn, BlockSyntax, Braces, StmtsSyntax, NoStmts, MoreStmts}
use Rattle.ivory_tree.specs.Nodes.{stmt_node, block_node, stmt_nodes}
use Rattle.area_types.specs.Syntax as types
use Rattle.alloc_effects.specs.declared.Narrowing.TheVariants as narrowing
use Rattle.control_effects.specs.Falling.{stmt_falls}
use Rattle.source_types.specs.Written.{index_type, area_in}
use Rattle.rule_faults.specs.Contexts.{Context}
use Rattle.rule_faults.specs.Wants.{Nothing, Wants, wants, of_stored}
use Rattle.rule_faults.specs.StatementRows.{after_stmt, in_loop, in_counted, without, of_value, stmt_row, block_row, stmts_row}
use Rattle.node_order.proofs.Shown.{Shows, ShowsAll, none, more, last, under, area_shown, expr_shown, call_shown, init_shown}

mutual
  pub stmt_shown : (context : Context) (reached : Bool) (s : StmtSyntax) → Shows (stmt_row context reached s) (stmt_node s)
  stmt_shown context reached (Let s name value) = under (last (expr_shown context Nothing value))
  stmt_shown context reached (LetCall s name call) = under (last (call_shown context call))
  stmt_shown context reached (Alloc s name area None) = under (more (area_shown context.earlier area) none)
  stmt_shown context reached (Alloc s name area (Some init)) = under (more (area_shown context.earlier area) (last (init_shown context false (area_in context.earlier area) init)))
  stmt_shown context reached (Store s target value) = under (more (expr_shown context Nothing target) (last (expr_shown context (of_stored context target) value)))
  stmt_shown context reached (Copy s target source) = under (more (expr_shown context Nothing target) (last (expr_shown context Nothing source)))
  stmt_shown context reached (Call s call) = under (last (call_shown context call))
  stmt_shown context reached (If s test first) = under (more (expr_shown context (Wants types.Truth) test) (last (block_shown context false first)))
  stmt_shown context reached (IfElse s test first second) =
      under (more (expr_shown context (Wants types.Truth) test) (more (block_shown context false first) (last (block_shown context false second))))
  stmt_shown context reached (Map s name n body) = under (last (block_shown (in_counted context name n) false body))
  stmt_shown context reached (Upto s name n bound body) = under (more (expr_shown context (wants (index_type n)) bound) (last (block_shown (in_counted context name n) false body)))
  stmt_shown context reached (Downto s name n bound body) = under (more (expr_shown context (wants (index_type n)) bound) (last (block_shown (in_counted context name n) false body)))
  stmt_shown context reached (Forever s body) = under (last (block_shown (in_loop context) false body))
  stmt_shown context reached (Break s) = under none
  stmt_shown context reached (Return s None) = under none
  stmt_shown context reached (Return s (Some value)) = under (last (expr_shown context (of_value context) value))
  stmt_shown context reached (Assert s cond) = under (last (expr_shown context (Wants types.Truth) cond))
  stmt_shown context reached (NoAlloc s body) = under (last (block_shown (without context narrowing.NoAlloc) false body))
  stmt_shown context reached (NoBreak s body) = under (last (block_shown (without context narrowing.NoBreak) false body))
  stmt_shown context reached (NoReturn s body) = under (last (block_shown (without context narrowing.NoReturn) false body))

  pub block_shown : (context : Context) (with_result : Bool) (b : BlockSyntax) → Shows (block_row context with_result b) (block_node b)
  block_shown context with_result (Braces s stmts) = under (stmts_shown context true stmts)

  stmts_shown : (context : Context) (reached : Bool) (ss : StmtsSyntax) → ShowsAll (stmts_row context reached ss) (stmt_nodes ss)
  stmts_shown context reached NoStmts = none
  stmts_shown context reached (MoreStmts s ss) = more (stmt_shown context reached s) (stmts_shown (after_stmt context s) (reached && stmt_falls s) ss)
