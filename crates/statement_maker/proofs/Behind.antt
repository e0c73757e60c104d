-- What is known behind a block, and what its core is.
use Rattle.std.proofs.Common.{◌≡◌, ℕ, List, refl, sym, ap, ap₂, ◌∙◌}
use Rattle.iv_words.specs.declared.Name.{Name}
use Rattle.iv_words.specs.declared.Span.{Span}
use Rattle.ivory_tree.specs.Syntax.{StmtSyntax, BlockSyntax, Braces}
use Rattle.ivory_tree.specs.View.{stmt_step, stmts_from, stmts_of, block_of}
use Rattle.ivory_tree.specs.declared.stmt.Block.{Block, out-Block, fold_out-Block}
use Rattle.area_types.specs.Syntax as types
use Rattle.area_types.specs.View.{type_of}
use Rattle.area_types.specs.declared.area.ValueType.{ValueType}
use Rattle.alloc_effects.specs.declared.allowed.Allowed.{Allowed}
use Rattle.alloc_effects.specs.Permissions.{looped}
use Rattle.typing_rules.specs.Environments.{Env, with_local, after_block}
use Rattle.typing_rules.specs.StatementCores.{block_core, block_last, stmts_core, stmts_last}
use Rattle.typing_rules.specs.Statements.{in_counted}
use Rattle.core_maker.specs.Places.{env_of, Agrees}
use Rattle.core_maker.specs.declared.place.Place.{Place}
use Rattle.statement_maker.specs.declared.scope.Around.{Around}
use Rattle.statement_maker.specs.Leaving.{around_of, left_with}
use Rattle.statement_maker.specs.Parts.{allowing, behind_block}
use Rattle.statement_maker.specs.Places.{Stays, with_locals}
use Rattle.statement_maker.proofs.Scopes.{with_allowed, left_is, stays_both}

pub block_view : (b : Block) → block_of b ≡ Braces (out-Block b).span (stmts_of (out-Block b).stmts)
block_view b = fold_out-Block (Span → StmtSyntax) BlockSyntax StmtSyntax stmt_step (λ b. Braces b.span (stmts_from b.stmts)) (λ s. s.kind s.span) b

-- ---- the names of a block are gone behind it

pub left : (a b new : Place) (allowed : Allowed) (around : Around) → around ≡ around_of a → new ≡ left_with b around → Stays (with_allowed a allowed) b → new ≡ with_locals a b.locals
left a b new allowed around around_is new_is stays = new_is ∙ ap (left_with b) around_is ∙ left_is a b allowed stays.kept

pub same : (a new : Place) (locals : List ValueType) → new ≡ with_locals a locals → new ≡ with_locals a new.locals
same a new locals is = is ∙ ap (λ (p : Place). with_locals a p.locals) (sym is)

-- the locals alone are those of the last statement
pub locals_known : (a b new : Place) (last : Env) → new ≡ with_locals a b.locals → env_of b ≡ last → env_of new ≡ after_block (env_of a) last
locals_known a b new last new_is last_is = ap env_of new_is ∙ ap (after_block (env_of a)) last_is

pub block_known : (a b new : Place) (allowed : Allowed) (body : Block) → new ≡ with_locals a b.locals → env_of b ≡ stmts_last (allowing (env_of a) allowed) (stmts_of (out-Block body).stmts)
    → env_of new ≡ behind_block (env_of a) (allowing (env_of a) allowed) (block_of body)
block_known a b new allowed body new_is last_is =
    locals_known a b new (stmts_last (allowing (env_of a) allowed) (stmts_of (out-Block body).stmts)) new_is last_is
    ∙ ap (λ (x : BlockSyntax). behind_block (env_of a) (allowing (env_of a) allowed) x) (sym (block_view body))

-- ---- in the body of a loop with a name

pub counted : (a inside : Place) (name : Name) (n : ℕ) (t : ValueType) (allowed : Allowed) → env_of inside ≡ with_local (env_of a) name.text (type_of t) → type_of t ≡ types.Ix n → allowed ≡ looped a.context.allowed
    → allowing (env_of inside) allowed ≡ in_counted (env_of a) name n
counted a inside name n t allowed env_is type_is allowed_is = ap₂ allowing (env_is ∙ ap (with_local (env_of a) name.text) type_is) allowed_is

pub loop_known : (a inside b new : Place) (name : Name) (n : ℕ) (allowed : Allowed) (body : BlockSyntax) → new ≡ with_locals a b.locals → env_of b ≡ behind_block (env_of inside) (allowing (env_of inside) allowed) body
    → allowing (env_of inside) allowed ≡ in_counted (env_of a) name n → env_of new ≡ behind_block (env_of a) (in_counted (env_of a) name n) body
loop_known a inside b new name n allowed body new_is last_is begin_is =
    locals_known a b new (behind_block (env_of inside) (allowing (env_of inside) allowed) body) new_is last_is
    ∙ ap (λ (e : Env). behind_block (env_of a) e body) begin_is

pub loop_left : (a inside b new : Place) (around : Around) → around ≡ around_of a → new ≡ left_with b around → Stays a inside → Stays inside b → new ≡ with_locals a b.locals
loop_left a inside b new around around_is new_is first second = left a b new a.context.allowed around around_is new_is (stays_both a inside b first second)
