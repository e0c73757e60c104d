-- Small blocks: which fall through, and what is unreached in them.
use Rattle.std.specs.Prelude.{◌≡◌, true, false, [], ◌∷◌, None}
use Rattle.iv_words.specs.declared.Span.{Span}
use Rattle.ivory_tree.specs.Syntax.{ExprSyntax, StmtSyntax, If, IfElse, Forever, Break, Return, NoAlloc, BlockSyntax, Braces, NoStmts, MoreStmts}
use Rattle.control_effects.specs.Falling.{block_falls}
use Rattle.control_effects.specs.Unreached.{within_block}

abbrev pub one : Span → StmtSyntax → BlockSyntax
one s stmt = Braces s (MoreStmts stmt NoStmts)

abbrev pub two : Span → StmtSyntax → StmtSyntax → BlockSyntax
two s x y = Braces s (MoreStmts x (MoreStmts y NoStmts))

-- `{ forever { } }` never ends
abbrev pub LoopsStay : Type 0
LoopsStay = (s : Span) → block_falls (one s (Forever s (Braces s NoStmts))) ≡ false

-- `{ forever { break; } }` does, and so does one whose break is unreached
abbrev pub BreaksLeave : Type 0
BreaksLeave = (s : Span) → block_falls (one s (Forever s (two s (Return s None) (Break s)))) ≡ true

-- in `{ forever { forever { break; } } }` the break is the inner loop's
abbrev pub InnerBreaksStay : Type 0
InnerBreaksStay = (s : Span) → block_falls (one s (Forever s (one s (Forever s (one s (Break s)))))) ≡ false

-- `{ if e { return; } }` falls through, `{ if e { return; } else { return; } }` does not
abbrev pub OneWayIsEnough : Type 0
OneWayIsEnough = (s : Span) (e : ExprSyntax) → (block_falls (one s (If s e (one s (Return s None)))) ≡ true) × (block_falls (one s (IfElse s e (one s (Return s None)) (one s (Return s None)))) ≡ false)

-- in `{ noalloc { return; return; } return; }` the second and the third return are unreached
abbrev pub TwoUnreached : Type 0
TwoUnreached = (r s t u : Span) → within_block (two r (NoAlloc r (two r (Return s None) (Return t None))) (Return u None)) ≡ t ∷ u ∷ []
