-- Statements that are made one after another.
use Rattle.std.proofs.Common.{◌≡◌, ℕ, ◌+◌, ◌<◌, ◌≤◌, List, [], ◌∷◌, ◌++◌, length, map, drop, get_or, drop-cons, add-one, refl, sym, ap, ap₂, ◌∙◌}
use Rattle.std.proofs.lemmas.List.{drop_all}
use Rattle.ivory_tree.specs.Syntax as syntax
use Rattle.ivory_tree.specs.Syntax.{StmtSyntax, StmtsSyntax}
use Rattle.ivory_tree.specs.View as text
use Rattle.ivory_tree.specs.declared.stmt.Stmt.{Stmt}
use Rattle.core_tree.specs.Syntax as core
use Rattle.core_tree.specs.Syntax.{StmtCore, StmtsCore}
use Rattle.core_tree.specs.View.{stmt_of, stmts_of}
use Rattle.core_tree.specs.declared.stmt.CoreStmt.{CoreStmt}
use Rattle.typing_rules.specs.Environments.{Env}
use Rattle.typing_rules.specs.StatementCores as cores
use Rattle.typing_rules.specs.StatementCores.{stmt_core, stmts_core, stmts_last}
use Rattle.check_numbers.specs.NumberedParts.{stmt_from, stmt_after, stmts_from, stmts_after}
use Rattle.statement_maker.specs.Parts.{followed}

pub next_of : (stmts : List Stmt) (i : ℕ) (s : Stmt) → i < length stmts → s ≡ get_or stmts i s → text.stmts_of (drop i stmts) ≡ syntax.MoreStmts (text.stmt_of s) (text.stmts_of (drop (i + 1) stmts))
next_of stmts i s h e =
    let cut : drop i stmts ≡ get_or stmts i s ∷ drop (i + 1) stmts = rw add-one (drop-cons stmts i s h) in
    ap text.stmts_of cut ∙ ap (λ (x : Stmt). syntax.MoreStmts (text.stmt_of x) (text.stmts_of (drop (i + 1) stmts))) (sym e)

pub none_left : (stmts : List Stmt) (i : ℕ) → length stmts ≤ i → text.stmts_of (drop i stmts) ≡ syntax.NoStmts
none_left stmts i past = ap text.stmts_of (drop_all i stmts past)

pushed : (made : List CoreStmt) (c : CoreStmt) (rest : StmtsCore) → followed (map stmt_of (made ++ c ∷ [])) rest ≡ followed (map stmt_of made) (core.MoreStmts (stmt_of c) rest)
pushed [] c rest = refl
pushed (x ∷ made) c rest = ap (core.MoreStmts (stmt_of x)) (pushed made c rest)

pub all_made : (made : List CoreStmt) → followed (map stmt_of made) core.NoStmts ≡ stmts_of made
all_made [] = refl
all_made (x ∷ made) = ap (core.MoreStmts (stmt_of x)) (all_made made)

-- ---- with one more statement

abbrev so_far : List CoreStmt → StmtsCore → StmtsCore
so_far made rest = followed (map stmt_of made) rest

pub more_core : (n m : ℕ) (env behind : Env) (made : List CoreStmt) (c : CoreStmt) (s : StmtSyntax) (rest : StmtsSyntax) → stmt_of c ≡ stmt_from n (stmt_core env s) → m ≡ stmt_after n (stmt_core env s) → behind ≡ cores.stmt_after env s
    → followed (map stmt_of (made ++ c ∷ [])) (stmts_from m (stmts_core behind rest)) ≡ followed (map stmt_of made) (stmts_from n (stmts_core env (syntax.MoreStmts s rest)))
more_core n m env behind made c s rest core_is number_is env_is =
    pushed made c (stmts_from m (stmts_core behind rest))
    ∙ ap (λ (x : StmtCore). so_far made (core.MoreStmts x (stmts_from m (stmts_core behind rest)))) core_is
    ∙ ap₂ (λ (k : ℕ) (e : Env). so_far made (core.MoreStmts (stmt_from n (stmt_core env s)) (stmts_from k (stmts_core e rest)))) number_is env_is

pub more_after : (n m : ℕ) (env behind : Env) (s : StmtSyntax) (rest : StmtsSyntax) → m ≡ stmt_after n (stmt_core env s) → behind ≡ cores.stmt_after env s
    → stmts_after m (stmts_core behind rest) ≡ stmts_after n (stmts_core env (syntax.MoreStmts s rest))
more_after n m env behind s rest number_is env_is = ap₂ (λ (k : ℕ) (e : Env). stmts_after k (stmts_core e rest)) number_is env_is

pub more_last : (env behind : Env) (s : StmtSyntax) (rest : StmtsSyntax) → behind ≡ cores.stmt_after env s → stmts_last behind rest ≡ stmts_last env (syntax.MoreStmts s rest)
more_last env behind s rest env_is = ap (λ (e : Env). stmts_last e rest) env_is
