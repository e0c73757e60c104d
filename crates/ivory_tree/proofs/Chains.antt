-- A chain with one link more has the chain before it as its left operand, and so has a postfix with one step more.
use Rattle.std.proofs.Common.{◌≡◌, List, [], ◌∷◌, ◌++◌, refl, ap, sym, ◌∙◌}
use Rattle.iv_words.specs.declared.Span.{Span}
use Rattle.ivory_tree.specs.Syntax.{ExprSyntax, Binary}
use Rattle.ivory_tree.specs.Places.{expr_span}
use Rattle.ivory_tree.specs.View.{LinkSyntax, StepSyntax, prefix_span, linked, step_span, part_of, stepped}

-- what begins with the whole and ends here
abbrev pub up_to : Span → Span → Span
up_to whole last = record { start = whole.start; end = last.end }

pub shorter_prefix : {A : Type 0} (whole last : Span) (before : List A) (x : A) (after : List A) → prefix_span whole last (before ++ x ∷ after) ≡ up_to whole last
shorter_prefix whole last [] x after = refl
shorter_prefix whole last (y ∷ before) x after = refl

pub chain_grows : (s : Span) (left : ExprSyntax) (ls : List LinkSyntax) (k l : LinkSyntax) → linked s left (ls ++ k ∷ l ∷ []) ≡ Binary s l.op l.at (linked (up_to s (expr_span k.right)) left (ls ++ k ∷ [])) l.right
chain_grows s left [] k l = refl
chain_grows s left (m ∷ ls) k l =
    let t = up_to s (expr_span k.right) in
    ap (λ p. linked s (Binary p m.op m.at left m.right) (ls ++ k ∷ l ∷ [])) (shorter_prefix s (expr_span m.right) ls k (l ∷ []))
    ∙ chain_grows s (Binary (up_to s (expr_span m.right)) m.op m.at left m.right) ls k l
    ∙ ap (λ p. Binary s l.op l.at (linked t (Binary p m.op m.at left m.right) (ls ++ k ∷ [])) l.right) (sym (shorter_prefix t (expr_span m.right) ls k []))

pub postfix_grows : (s : Span) (base : ExprSyntax) (ts : List StepSyntax) (t u : StepSyntax) → stepped s base (ts ++ t ∷ u ∷ []) ≡ part_of s (stepped (up_to s (step_span t)) base (ts ++ t ∷ [])) u
postfix_grows s base [] t u = refl
postfix_grows s base (v ∷ ts) t u =
    let r = up_to s (step_span t) in
    ap (λ p. stepped s (part_of p base v) (ts ++ t ∷ u ∷ [])) (shorter_prefix s (step_span v) ts t (u ∷ []))
    ∙ postfix_grows s (part_of (up_to s (step_span v)) base v) ts t u
    ∙ ap (λ p. part_of s (stepped r (part_of p base v) (ts ++ t ∷ [])) u) (sym (shorter_prefix r (step_span v) ts t []))
