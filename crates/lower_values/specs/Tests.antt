-- Checks in C: `if ((!G)) { ivory_stop(K); }`, where the guard G is 0 exactly where the check of the site K fails. A check that is settled
-- has none, and one whose site is left out has a statement that does nothing in its place.
use Rattle.std.specs.Prelude.{ℕ, Bool, true, false, if◌then◌else◌, List, [], ◌∷◌}
use Rattle.core_tree.specs.declared.Check.{Check}
use Rattle.core_tree.specs.declared.SiteKind.{SiteKind}
use Rattle.core_tree.specs.Syntax.{Label}
use Rattle.c_ast.specs.declared.CUnary.TheVariants.{Not}
use Rattle.c_ast.specs.declared.Suffix.TheVariants.{Plain}
use Rattle.c_ast.specs.Names.{stop_name}
use Rattle.c_ast.specs.Syntax.{Expr, Number, Unary, Stmt, If, Call, Nil, Cons}
use Rattle.lower_values.specs.Frames.{Frame}
use Rattle.lower_values.specs.Pieces.{pad}

abbrev pub stop_at : ℕ → Stmt
stop_at site = Call (record { name = stop_name; args = Number site Plain ∷ [] })

abbrev pub test_for : Expr → ℕ → Stmt
test_for guard site = If (Unary Not guard) (Cons (stop_at site) Nil)

abbrev pub test : Frame → Expr → Check → Stmt
test f guard c = if f.skip c.site then pad else test_for guard c.site

-- the tests of an operator's checks, in order
abbrev pub tests : Frame → (guard : SiteKind → Expr) → (is_settled : SiteKind → Bool) → List Check → List Stmt
tests f guard is_settled [] = []
tests f guard is_settled (c ∷ cs) = if is_settled c.kind then tests f guard is_settled cs else test f (guard c.kind) c ∷ tests f guard is_settled cs

abbrev pub is_checked : List Check → Bool
is_checked [] = false
is_checked (c ∷ cs) = true

abbrev pub has_checks : Label → Bool
has_checks l = is_checked l.checks

abbrev pub are_none : List Stmt → Bool
are_none [] = true
are_none (s ∷ ss) = false
