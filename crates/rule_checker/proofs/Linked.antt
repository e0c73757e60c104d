-- A chain is the left-nested tree of its links, and a postfix that of its steps.
use Rattle.std.proofs.Common.{◌≡◌, ℕ, suc, arith, cond, ◌||◌, Bool, length, nat_lt, true, false, List, [], ◌∷◌, map, refl, ap, ◌∙◌}
use Rattle.std.specs.Prelude.{Option, None}
use Rattle.std.proofs.lemmas.Bool.Decides.{nat_tests}
use Rattle.iv_words.specs.declared.Span.{Span}
use Rattle.ivory_tree.specs.Syntax.{ExprSyntax, Binary}
use Rattle.ivory_tree.specs.Places.{expr_span}
use Rattle.ivory_tree.specs.View.{LinkSyntax, StepSyntax, FieldStep, IndexStep, prefix_span, linked, chain_from, step_span, part_of, stepped, postfix_from, expr_of, link_of, step_of}
use Rattle.ivory_tree.specs.declared.expr.Expr.{Expr}
use Rattle.ivory_tree.specs.declared.expr.ExprKind.TheVariants as kind
use Rattle.ivory_tree.specs.declared.expr.Link.{Link}
use Rattle.ivory_tree.specs.declared.expr.Step.{Step}
use Rattle.ivory_tree.proofs.View.{expr_at, chain_is, postfix_is}
use Rattle.area_types.specs.Syntax.{ValueType}
use Rattle.source_types.specs.Settled.{settled}
use Rattle.rule_faults.specs.Contexts.{Context}
use Rattle.rule_faults.specs.Types.{type_of}
use Rattle.rule_checker.specs.Chains.{has_steps, chain_settled, postfix_settled, chain_type, steps_type, postfix_type}

pub settled_linked : (s : Span) (left : ExprSyntax) (ls : List LinkSyntax) → settled (linked s left ls) ≡ chain_settled (settled left) ls
settled_linked s left [] = refl
settled_linked s left (l ∷ ls) = settled_linked s (Binary (prefix_span s (expr_span l.right) ls) l.op l.at left l.right) ls

pub settled_chain : (s : Span) (first : ExprSyntax) (ls : List LinkSyntax) → settled (chain_from s first ls) ≡ chain_settled (settled first) ls
settled_chain s first [] = refl
settled_chain s first (l ∷ ls) = settled_linked s first (l ∷ ls)

settled_part : (s : Span) (base : ExprSyntax) (t : StepSyntax) → settled (part_of s base t) ≡ true
settled_part s base (FieldStep field) = refl
settled_part s base (IndexStep index brackets) = refl

settled_stepped : (s : Span) (base : ExprSyntax) (t : StepSyntax) (ts : List StepSyntax) → settled (stepped s base (t ∷ ts)) ≡ true
settled_stepped s base t [] = settled_part (prefix_span {A = StepSyntax} s (step_span t) []) base t
settled_stepped s base t (u ∷ ts) = settled_stepped s (part_of (prefix_span s (step_span t) (u ∷ ts)) base t) u ts

pub settled_postfix : (s : Span) (base : ExprSyntax) (ts : List StepSyntax) → settled (postfix_from s base ts) ≡ postfix_settled (settled base) ts
settled_postfix s base [] = refl
settled_postfix s base (t ∷ ts) = settled_stepped s base t ts

pub type_linked : (c : Context) (w : Option ValueType) (s : Span) (left : ExprSyntax) (ls : List LinkSyntax) → type_of c w (linked s left ls) ≡ chain_type c w (settled left) (type_of c w left) ls
type_linked c w s left [] = refl
type_linked c w s left (l ∷ ls) = type_linked c w s (Binary (prefix_span s (expr_span l.right) ls) l.op l.at left l.right) ls

pub type_chain : (c : Context) (w : Option ValueType) (s : Span) (first : ExprSyntax) (ls : List LinkSyntax) → type_of c w (chain_from s first ls) ≡ chain_type c w (settled first) (type_of c w first) ls
type_chain c w s first [] = refl
type_chain c w s first (l ∷ ls) = type_linked c w s first (l ∷ ls)

type_part : (c : Context) (w : Option ValueType) (s : Span) (base : ExprSyntax) (t : StepSyntax) → type_of c w (part_of s base t) ≡ steps_type c (type_of c None base) (t ∷ [])
type_part c w s base (FieldStep field) = refl
type_part c w s base (IndexStep index brackets) = refl

more_steps : (c : Context) (w : Option ValueType) (s : Span) (base : ExprSyntax) (t : StepSyntax) (ts : List StepSyntax) → steps_type c (type_of c w (part_of s base t)) ts ≡ steps_type c (type_of c None base) (t ∷ ts)
more_steps c w s base (FieldStep field) ts = refl
more_steps c w s base (IndexStep index brackets) ts = refl

pub type_stepped : (c : Context) (w : Option ValueType) (s : Span) (base : ExprSyntax) (t : StepSyntax) (ts : List StepSyntax) → type_of c w (stepped s base (t ∷ ts)) ≡ steps_type c (type_of c None base) (t ∷ ts)
type_stepped c w s base t [] = type_part c w (prefix_span {A = StepSyntax} s (step_span t) []) base t
type_stepped c w s base t (u ∷ ts) =
    let p = prefix_span s (step_span t) (u ∷ ts) in
    type_stepped c w s (part_of p base t) u ts ∙ more_steps c None p base t (u ∷ ts)

pub type_postfix : (c : Context) (w : Option ValueType) (s : Span) (base : ExprSyntax) (ts : List StepSyntax) → type_of c w (postfix_from s base ts) ≡ postfix_type c w base ts
type_postfix c w s base [] = refl
type_postfix c w s base (t ∷ ts) = type_stepped c w s base t ts

-- the trees of the code

pub chain_view : (e first : Expr) (links : List Link) → e.kind ≡ kind.Chain first links → expr_of e ≡ chain_from e.span (expr_of first) (map link_of links)
chain_view e first links h = ap (λ k. expr_at k e.span) h ∙ chain_is first links e.span

pub postfix_view : (e base : Expr) (steps : List Step) → e.kind ≡ kind.Postfix base steps → expr_of e ≡ postfix_from e.span (expr_of base) (map step_of steps)
postfix_view e base steps h = ap (λ k. expr_at k e.span) h ∙ postfix_is base steps e.span

pub chain_is_settled : (e first : Expr) (links : List Link) → e.kind ≡ kind.Chain first links → settled (expr_of e) ≡ chain_settled (settled (expr_of first)) (map link_of links)
chain_is_settled e first links h = ap settled (chain_view e first links h) ∙ settled_chain e.span (expr_of first) (map link_of links)

pub postfix_is_settled : (e base : Expr) (steps : List Step) → e.kind ≡ kind.Postfix base steps → settled (expr_of e) ≡ postfix_settled (settled (expr_of base)) (map step_of steps)
postfix_is_settled e base steps h = ap settled (postfix_view e base steps h) ∙ settled_postfix e.span (expr_of base) (map step_of steps)

pub chain_has_type : (c : Context) (w : Option ValueType) (e first : Expr) (links : List Link) → e.kind ≡ kind.Chain first links → type_of c w (expr_of e) ≡ chain_type c w (settled (expr_of first)) (type_of c w (expr_of first)) (map link_of links)
chain_has_type c w e first links h = ap (type_of c w) (chain_view e first links h) ∙ type_chain c w e.span (expr_of first) (map link_of links)

pub postfix_has_type : (c : Context) (w : Option ValueType) (e base : Expr) (steps : List Step) → e.kind ≡ kind.Postfix base steps → type_of c w (expr_of e) ≡ postfix_type c w (expr_of base) (map step_of steps)
postfix_has_type c w e base steps h = ap (type_of c w) (postfix_view e base steps h) ∙ type_postfix c w e.span (expr_of base) (map step_of steps)

positive : (n : ℕ) → nat_lt 0 (suc n) ≡ true
positive n = grind (arith, nat_tests)

pub some_steps : (steps : List Step) → nat_lt 0 (length steps) ≡ has_steps (map step_of steps)
some_steps [] = refl
some_steps (x ∷ xs) = positive (length xs)

settled_if : (b base : Bool) → b ≡ true → b || base ≡ true
settled_if true base h = refl
settled_if false base h = let no : ⊥ = cc in absurd no

settled_unless : (b base : Bool) → b ≡ false → b || base ≡ base
settled_unless false base h = refl
settled_unless true base h = let no : ⊥ = cc in absurd no

pub postfix_settled_then : (e base : Expr) (steps : List Step) → e.kind ≡ kind.Postfix base steps → has_steps (map step_of steps) ≡ true → settled (expr_of e) ≡ true
postfix_settled_then e base steps h b = postfix_is_settled e base steps h ∙ settled_if (has_steps (map step_of steps)) (settled (expr_of base)) b

pub postfix_settled_else : (e base : Expr) (steps : List Step) → e.kind ≡ kind.Postfix base steps → has_steps (map step_of steps) ≡ false → settled (expr_of e) ≡ settled (expr_of base)
postfix_settled_else e base steps h b = postfix_is_settled e base steps h ∙ settled_unless (has_steps (map step_of steps)) (settled (expr_of base)) b

type_if : (b : Bool) (x y : Option ValueType) → b ≡ true → cond b x y ≡ x
type_if true x y h = refl
type_if false x y h = let no : ⊥ = cc in absurd no

type_unless : (b : Bool) (x y : Option ValueType) → b ≡ false → cond b x y ≡ y
type_unless false x y h = refl
type_unless true x y h = let no : ⊥ = cc in absurd no

pub postfix_type_then : (c : Context) (w : Option ValueType) (e base : Expr) (steps : List Step) → e.kind ≡ kind.Postfix base steps → has_steps (map step_of steps) ≡ true → type_of c w (expr_of e) ≡ steps_type c (type_of c None (expr_of base)) (map step_of steps)
postfix_type_then c w e base steps h b = postfix_has_type c w e base steps h ∙ type_if (has_steps (map step_of steps)) _ _ b

pub postfix_type_else : (c : Context) (w : Option ValueType) (e base : Expr) (steps : List Step) → e.kind ≡ kind.Postfix base steps → has_steps (map step_of steps) ≡ false → type_of c w (expr_of e) ≡ type_of c w (expr_of base)
postfix_type_else c w e base steps h b = postfix_has_type c w e base steps h ∙ type_unless (has_steps (map step_of steps)) _ _ b
