-- Rows of statements, taken apart from the front.
use Rattle.std.proofs.Common.{◌≡◌, ℕ, ◌+◌, ◌<◌, true, false, List, [], ◌∷◌, ◌++◌, length, get_or, drop, drop-cons, add-one, Some, None, refl, sym, ap, ◌∙◌}
use Rattle.iv_words.specs.declared.Span.{Span}
use Rattle.ivory_tree.specs.Syntax.{StmtSyntax, StmtsSyntax, MoreStmts}
use Rattle.ivory_tree.specs.Places.{stmt_span}
use Rattle.ivory_tree.specs.View.{stmt_of, stmts_of}
use Rattle.ivory_tree.specs.declared.stmt.Stmt.{Stmt}
use Rattle.control_effects.specs.Falling.{stmt_falls}
use Rattle.control_effects.specs.Unreached.{first, within_stmt, within_stmts}

-- the statement at i, and the row after it
pub next_of : (stmts : List Stmt) (i : ℕ) (s : Stmt) → i < length stmts → s ≡ get_or stmts i s → stmts_of (drop i stmts) ≡ MoreStmts (stmt_of s) (stmts_of (drop (i + 1) stmts))
next_of stmts i s h e =
    let cut : drop i stmts ≡ get_or stmts i s ∷ drop (i + 1) stmts = rw add-one (drop-cons stmts i s h) in
    ap stmts_of cut ∙ ap (λ x. MoreStmts (stmt_of x) (stmts_of (drop (i + 1) stmts))) (sym e)

-- what is not reached

first_nothing : {A : Type 0} (xs : List A) → first xs ≡ None → xs ≡ []
first_nothing [] h = refl
first_nothing (x ∷ xs) h = absurd cc

first_of_joined : {A : Type 0} (xs ys : List A) (x : A) → first xs ≡ Some x → first (xs ++ ys) ≡ Some x
first_of_joined [] ys x h = absurd cc
first_of_joined (z ∷ xs) ys x h = h

-- the statement itself
pub unreached_here : (s : StmtSyntax) (rest row : StmtsSyntax) → row ≡ MoreStmts s rest → first (within_stmts false row) ≡ Some (stmt_span s)
unreached_here s rest row e = ap (λ r. first (within_stmts false r)) e

-- one within it
pub unreached_within : (s : StmtSyntax) (rest row : StmtsSyntax) (found : Span) → row ≡ MoreStmts s rest → first (within_stmt s) ≡ Some found → first (within_stmts true row) ≡ Some found
unreached_within s rest row found e h = ap (λ r. first (within_stmts true r)) e ∙ first_of_joined (within_stmt s) (within_stmts (stmt_falls s) rest) found h

-- none in it
pub unreached_later : (s : StmtSyntax) (rest row : StmtsSyntax) → row ≡ MoreStmts s rest → first (within_stmt s) ≡ None → within_stmts true row ≡ within_stmts (stmt_falls s) rest
unreached_later s rest row e h = ap (within_stmts true) e ∙ ap (λ xs. xs ++ within_stmts (stmt_falls s) rest) (first_nothing (within_stmt s) h)
