-- Small blocks and their effects.
use Rattle.std.specs.Prelude.{◌≡◌, true, false, None}
use Rattle.iv_words.specs.declared.Span.{Span}
use Rattle.ivory_tree.specs.Syntax.{ExprSyntax, StmtSyntax, IfElse, Forever, Break, Return, NoReturn, BlockSyntax, Braces, NoStmts, MoreStmts}
use Rattle.alloc_effects.specs.Effects.{none, a_break, a_return, block_effects}

abbrev pub one : Span → StmtSyntax → BlockSyntax
one s stmt = Braces s (MoreStmts stmt NoStmts)

abbrev pub two : Span → StmtSyntax → StmtSyntax → BlockSyntax
two s first second = Braces s (MoreStmts first (MoreStmts second NoStmts))

-- `{ forever { break; } }` does not break
abbrev pub InnerBreaksStay : Type 0
InnerBreaksStay = (s : Span) → block_effects (one s (Forever s (one s (Break s)))) ≡ none

-- `{ break; forever { break; } }` does
abbrev pub BreaksLeave : Type 0
BreaksLeave = (s : Span) → block_effects (two s (Break s) (Forever s (one s (Break s)))) ≡ a_break

-- `{ return; break; }` returns and breaks
abbrev pub UnreachedCounts : Type 0
UnreachedCounts = (s : Span) → block_effects (two s (Return s None) (Break s)) ≡ record { allocs = false; breaks = true; returns = true }

-- `{ if e { break; } else { return; } }` too
abbrev pub ElseCounts : Type 0
ElseCounts = (s : Span) (e : ExprSyntax) → block_effects (one s (IfElse s e (one s (Break s)) (one s (Return s None)))) ≡ record { allocs = false; breaks = true; returns = true }

-- `{ noreturn { return; } }` returns, though it may not
abbrev pub NarrowedCounts : Type 0
NarrowedCounts = (s : Span) → block_effects (one s (NoReturn s (one s (Return s None)))) ≡ a_return
