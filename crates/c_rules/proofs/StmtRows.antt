-- Statements in a row.
use Rattle.std.proofs.Common.{◌≡◌, refl, ap, ℕ, Bool, List, [], ◌∷◌, ◌++◌}
use Rattle.std.specs.Prelude.{map}
use Rattle.c_ast.specs.declared.stmt.CStmt.{CStmt}
use Rattle.c_ast.specs.declared.types.CType.{CType}
use Rattle.c_ast.specs.declared.types.Target.{Target}
use Rattle.c_ast.specs.View.{stmt_of, stmts_from}
use Rattle.c_text.specs.Rules.{Demand, behind}
use Rattle.c_text.specs.Scopes.{Names, after}
use Rattle.c_text.specs.TypeText.{texts}
use Rattle.c_text.specs.StatementText.{indent, stmt_text, stmts_text}
use Rattle.c_text.specs.StatementRules.{stmt_demands, stmts_demands}
use Rattle.c_scopes.proofs.Rows.{asks}

abbrev pub text : ℕ → CStmt → List ℕ
text braces s = stmt_text braces (stmt_of s)

abbrev pub item : Target → CType → Bool → ℕ → Names → ℕ → CStmt → List Demand
item target result in_loop braces names at s = stmt_demands target result in_loop braces names (behind at (indent braces)) (stmt_of s)

abbrev pub next : Names → CStmt → Names
next names s = after (stmt_of s) names

pub stmts_are : (target : Target) (result : CType) (in_loop : Bool) (braces : ℕ) (names : Names) (at : ℕ) (ss : List CStmt)
    → asks (text braces) (item target result in_loop braces) next names at ss ≡ stmts_demands target result in_loop braces names at (stmts_from (map stmt_of ss))
stmts_are target result in_loop braces names at [] = refl
stmts_are target result in_loop braces names at (s ∷ ss) =
    ap (λ ds. item target result in_loop braces names at s ++ ds) (stmts_are target result in_loop braces (next names s) (behind at (text braces s)) ss)

pub texts_are : (braces : ℕ) (ss : List CStmt) → texts (map (text braces) ss) ≡ stmts_text braces (stmts_from (map stmt_of ss))
texts_are braces [] = refl
texts_are braces (s ∷ ss) = ap (λ t. text braces s ++ t) (texts_are braces ss)
