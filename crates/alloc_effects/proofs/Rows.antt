-- The effects of a row of statements with one more.
use Rattle.std.proofs.Common.{◌≡◌, ℕ, ◌+◌, ◌<◌, Bool, true, false, List, [], ◌∷◌, ◌++◌, length, get_or, take, map, refl, sym, ap, ◌∙◌}
use Rattle.std.specs.Prelude.{◌||◌}
use Rattle.std.proofs.lemmas.List.{map_more}
use Rattle.ivory_tree.specs.Syntax.{StmtSyntax}
use Rattle.ivory_tree.specs.View.{stmt_of, stmts_of, stmts_from}
use Rattle.ivory_tree.specs.declared.stmt.Stmt.{Stmt}
use Rattle.alloc_effects.specs.Effects.{either, none, stmt_effects, stmts_effects}
use Rattle.alloc_effects.specs.declared.effects.Effects.{Effects}

or_assoc : (a b c : Bool) → (a || b) || c ≡ a || (b || c)
or_assoc true b c = refl
or_assoc false b c = refl

or_none : (a : Bool) → a || false ≡ a
or_none true = refl
or_none false = refl

either_assoc : (a b c : Effects) → either (either a b) c ≡ either a (either b c)
either_assoc a b c = rw (or_assoc a.allocs b.allocs c.allocs, or_assoc a.breaks b.breaks c.breaks, or_assoc a.returns b.returns c.returns) refl

either_none : (a : Effects) → either a none ≡ a
either_none a = rw (or_none a.allocs, or_none a.breaks, or_none a.returns) refl

row_more : (row : List StmtSyntax) (s : StmtSyntax) → either (stmts_effects (stmts_from row)) (stmt_effects s) ≡ stmts_effects (stmts_from (row ++ s ∷ []))
row_more [] s = sym (either_none (stmt_effects s))
row_more (r ∷ row) s = either_assoc (stmt_effects r) (stmts_effects (stmts_from row)) (stmt_effects s) ∙ ap (either (stmt_effects r)) (row_more row s)

-- the effects of the statements so far, and of one more
pub one_more : (stmts : List Stmt) (i : ℕ) (s : Stmt) → i < length stmts → s ≡ get_or stmts i s → either (stmts_effects (stmts_of (take i stmts))) (stmt_effects (stmt_of s)) ≡ stmts_effects (stmts_of (take (i + 1) stmts))
one_more stmts i s h e =
    row_more (map stmt_of (take i stmts)) (stmt_of s)
    ∙ ap (λ row. stmts_effects (stmts_from row)) (ap (λ x. map stmt_of (take i stmts) ++ stmt_of x ∷ []) e ∙ sym (map_more stmt_of stmts i s h))
