-- A break that leaves the loop around a block stands among its effects.
use Rattle.std.proofs.Common.{◌≡◌, refl, ap, ◌∙◌, Bool}
use Rattle.std.specs.Prelude.{◌||◌}
use Rattle.ivory_tree.specs.Syntax.{StmtSyntax, Let, LetCall, Alloc, Store, Copy, Call, If, IfElse, Map, Upto, Downto, Forever, Break, Return, Assert, NoAlloc, NoBreak, NoReturn, BlockSyntax, Braces, StmtsSyntax, NoStmts, MoreStmts}
use Rattle.alloc_effects.specs.Effects.{stmt_effects, block_effects, stmts_effects}
use Rattle.control_effects.specs.Breaks.{stmt_breaks, block_breaks, stmts_break}

both : {a b c d : Bool} → a ≡ c → b ≡ d → a || b ≡ c || d
both {a} {b} {c} {d} p q = ap (λ x. x || b) p ∙ ap (λ x. c || x) q

mutual
  of_stmt : (s : StmtSyntax) → (stmt_effects s).breaks ≡ stmt_breaks s
  of_stmt (Let s name value) = refl
  of_stmt (LetCall s name call) = refl
  of_stmt (Alloc s name area init) = refl
  of_stmt (Store s target value) = refl
  of_stmt (Copy s target source) = refl
  of_stmt (Call s call) = refl
  of_stmt (If s test first) = breaks_are first
  of_stmt (IfElse s test first second) = both (breaks_are first) (breaks_are second)
  of_stmt (Map s name n body) = refl
  of_stmt (Upto s name n bound body) = refl
  of_stmt (Downto s name n bound body) = refl
  of_stmt (Forever s body) = refl
  of_stmt (Break s) = refl
  of_stmt (Return s value) = refl
  of_stmt (Assert s cond) = refl
  of_stmt (NoAlloc s body) = breaks_are body
  of_stmt (NoBreak s body) = breaks_are body
  of_stmt (NoReturn s body) = breaks_are body

  pub breaks_are : (b : BlockSyntax) → (block_effects b).breaks ≡ block_breaks b
  breaks_are (Braces s stmts) = of_stmts stmts

  of_stmts : (ss : StmtsSyntax) → (stmts_effects ss).breaks ≡ stmts_break ss
  of_stmts NoStmts = refl
  of_stmts (MoreStmts s ss) = both (of_stmt s) (of_stmts ss)
