-- Lists of statements in the abstract syntax.
use Rattle.std.proofs.Common.{◌≡◌, List, [], ◌∷◌, refl, ap}
use Rattle.c_ast.specs.Syntax.{Stmt, Cons}
use Rattle.c_ast.specs.View as view
use Rattle.c_grammar.specs.StatementRules as statements

pub stmts_same : (ss : List Stmt) → statements.stmts_of ss ≡ view.stmts_from ss
stmts_same [] = refl
stmts_same (s ∷ ss) = ap (Cons s) (stmts_same ss)
