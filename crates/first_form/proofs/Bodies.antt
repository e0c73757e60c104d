-- The statements of a block.
use Rattle.std.proofs.Common.{◌≡◌, List, [], ◌∷◌, map, refl, sym, ap, ◌∙◌}
use Rattle.iv_words.specs.declared.Span.{Span}
use Rattle.ivory_tree.specs.Syntax.{StmtSyntax, BlockSyntax, Braces}
use Rattle.ivory_tree.specs.View.{stmts_from, stmts_of, stmt_step, stmt_of, block_of}
use Rattle.ivory_tree.specs.declared.stmt.Block.{Block, out-Block, fold_out-Block}

pub stmts_same : (xs ys : List StmtSyntax) → stmts_from xs ≡ stmts_from ys → xs ≡ ys
stmts_same [] [] e = refl
stmts_same [] (y ∷ ys) e = absurd cc
stmts_same (x ∷ xs) [] e = absurd cc
stmts_same (x ∷ xs) (y ∷ ys) e =
    let first : x ≡ y = cc in
    let rest : stmts_from xs ≡ stmts_from ys = cc in
    ap (λ z. z ∷ xs) first ∙ ap (λ zs. y ∷ zs) (stmts_same xs ys rest)

-- the block's statements are those that it is said to have
pub stmts_are : (b : Block) (s : Span) (stmts : List StmtSyntax) → block_of b ≡ Braces s (stmts_from stmts) → stmts ≡ map stmt_of (out-Block b).stmts
stmts_are b s stmts e =
    let opened : block_of b ≡ Braces (out-Block b).span (stmts_of (out-Block b).stmts) = fold_out-Block (Span → StmtSyntax) BlockSyntax StmtSyntax stmt_step (λ b. Braces b.span (stmts_from b.stmts)) (λ s. s.kind s.span) b in
    let both : Braces s (stmts_from stmts) ≡ Braces (out-Block b).span (stmts_of (out-Block b).stmts) = sym e ∙ opened in
    let same : stmts_from stmts ≡ stmts_of (out-Block b).stmts = cc in
    stmts_same stmts (map stmt_of (out-Block b).stmts) same
