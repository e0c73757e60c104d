-- The unreached statements of a block and of the blocks in it, by their places in the order of the text: those that stand in
-- their block after a statement that does not fall through.
use Rattle.std.specs.Prelude.{Bool, true, false, List, [], ◌∷◌, ◌++◌, ◌&&◌, Option, Some, None}
use Rattle.iv_words.specs.declared.Span.{Span}
use Rattle.ivory_tree.specs.Syntax.{StmtSyntax, If, IfElse, Map, Upto, Downto, Forever, NoAlloc, NoBreak, NoReturn, BlockSyntax, Braces, StmtsSyntax, NoStmts, MoreStmts}
use Rattle.ivory_tree.specs.Places.{stmt_span}
use Rattle.control_effects.specs.Falling.{stmt_falls}

abbrev pub first : {A : Type 0} → List A → Option A
first [] = None
first (x ∷ xs) = Some x

-- the statement itself, where it is not reached
abbrev pub where_not : Bool → Span → List Span
where_not true s = []
where_not false s = s ∷ []

abbrev mutual
  pub within_stmt : StmtSyntax → List Span
  within_stmt (If s test one) = within_block one
  within_stmt (IfElse s test one other) = within_block one ++ within_block other
  within_stmt (Map s name length body) = within_block body
  within_stmt (Upto s name length bound body) = within_block body
  within_stmt (Downto s name length bound body) = within_block body
  within_stmt (Forever s body) = within_block body
  within_stmt (NoAlloc s body) = within_block body
  within_stmt (NoBreak s body) = within_block body
  within_stmt (NoReturn s body) = within_block body
  within_stmt _ = []

  -- the start of a block is reached
  pub within_block : BlockSyntax → List Span
  within_block (Braces s stmts) = within_stmts true stmts

  -- `reached` says whether each statement before these falls through
  pub within_stmts : (reached : Bool) → StmtsSyntax → List Span
  within_stmts reached NoStmts = []
  within_stmts reached (MoreStmts s ss) = where_not reached (stmt_span s) ++ (within_stmt s ++ within_stmts (reached && stmt_falls s) ss)
