-- How deep an expression can be: what nests in it, a right operand of `||`, and one of `&&`.
use Rattle.std.proofs.Common.{◌≡◌, ℕ, pos, neg_ℤ, suc, ◌+◌, ◌-◌, ◌*◌, ◌≤◌, List, [], ◌∷◌, ◌++◌, map, refl, sym, ap, ◌∙◌, subst, arith, Option, Some, None}
use Rattle.std.specs.Prelude.{◌==◌, Bool, true, false, if◌then◌else◌}
use Rattle.std.proofs.lemmas.Bool.{eqb-true}
use Rattle.iv_words.specs.declared.Span.{Span}
use Rattle.ivory_lexer.specs.declared.Token.{Token}
use Rattle.ivory_tree.specs.Syntax as syntax
use Rattle.ivory_tree.specs.Syntax.{ExprSyntax}
use Rattle.ivory_tree.specs.Depth.{expr_depth, right_depth}
use Rattle.ivory_tree.specs.Places.{expr_span}
use Rattle.ivory_tree.specs.View.{LinkSyntax, StepSyntax, FieldStep, IndexStep, prefix_span, linked, step_span, part_of, stepped, expr_of, link_of, step_of}
use Rattle.ivory_tree.specs.declared.BinOp.{BinOp}
use Rattle.ivory_tree.specs.declared.BinOp.TheVariants as op
use Rattle.ivory_tree.specs.declared.PrefixOp.TheVariants as prefix
use Rattle.ivory_tree.specs.declared.Expr.{Expr}
use Rattle.ivory_tree.specs.declared.Link.{Link}
use Rattle.ivory_tree.specs.declared.Step.{Step}
use Rattle.ivory_tree.proofs.View.{literal_is, truth_is, outcome_is, variable_is, cast_is, to_index_is, wrap_index_is, make_bits_is, raw_is, set_field_is, prefix_is, chain_is, postfix_is, cond_is, link_is, field_step_is, index_step_is}
use Rattle.reading.specs.Row.{Row, tokens, Shallow}
use Rattle.reading.specs.Language.{Many}
use Rattle.reading.proofs.Rows.{shallow_front, shallow_back}
use Rattle.expression_grammar.specs.Tokens.{span_of}
use Rattle.expression_grammar.specs.Operators.{looseness, of_level, with_place, binary_of}
use Rattle.expression_grammar.specs.Trees as tree
use Rattle.expression_grammar.specs.Grammar as grammar
use Rattle.expression_grammar.specs.Grammar.{Symbol, expression, chain, a_link, operand, postfix, a_step, primary, many, Tree, Spells}
use Rattle.spelled_trees.proofs.Nesting.{AtMost, flat, loose, deep_ahead, deep_behind, deepest_of, opened, inner}

-- ---- operators: how much the operators of the lowest levels add, which are `&&` and `||`

abbrev logic : ℕ → ℕ
logic n = n - 8

op_adds : (o : BinOp) (depth n : ℕ) → depth ≤ n + logic (looseness o) → right_depth o depth ≤ n + logic (suc (looseness o))
op_adds op.Mul depth n up = omega arith
op_adds op.OrElse depth n up = omega arith
op_adds op.AndAlso depth n up = omega arith
op_adds o depth n up = omega arith

of_this_level : (t : Bool) (b : BinOp) (s : Span) (o : BinOp × Span) → with_place (if t then Some b else None) s ≡ Some o → (t ≡ true) × (b ≡ o.0)
of_this_level true b s o e = let same : (b, s) ≡ o = cc in (refl, ap (λ (p : BinOp × Span). p.0) same)
of_this_level false b s o e = cc

level_is : (n : ℕ) (k : Option BinOp) (s : Span) (o : BinOp × Span) → with_place (of_level n k) s ≡ Some o → looseness o.0 ≡ n
level_is n None s o e = cc
level_is n (Some b) s o e = let w = of_this_level (looseness b == n) b s o e in ap looseness (sym w.1) ∙ eqb-true (looseness b) n w.0

-- ---- chains and postfixes

abbrev link_depth : LinkSyntax → ℕ
link_depth l = right_depth l.op (expr_depth l.right)

abbrev LinksUpTo : ℕ → List LinkSyntax → Type 0
LinksUpTo n [] = Unit {0}
LinksUpTo n (l ∷ ls) = (link_depth l ≤ n) × LinksUpTo n ls

linked_deep : (n : ℕ) (s : Span) (left : ExprSyntax) (ls : List LinkSyntax) → expr_depth left ≤ n → LinksUpTo n ls → expr_depth (linked s left ls) ≤ n
linked_deep n s left [] up more = up
linked_deep n s left (l ∷ ls) up more = linked_deep n s (syntax.Binary (prefix_span s (expr_span l.right) ls) l.op l.at left l.right) ls (omega (arith, more.0)) more.1

links_deep : (d c limit : ℕ) (links : List Link) (row : Row Token) → Many (λ l r. AtMost d r (link_depth (link_of l)) c) links row → Shallow limit row → d ≤ limit
    → LinksUpTo (3 * (limit - d) + c) (map link_of links)
links_deep d c limit [] row e shallow up = tt
links_deep d c limit (l ∷ ls) row (f, g, e, here, later) shallow up =
    let there = subst (Shallow limit) e shallow in
    (here.bound limit (shallow_front limit f g there) up, links_deep d c limit ls g later (shallow_back limit f g there) up)

abbrev step_depth : StepSyntax → ℕ
step_depth (FieldStep field) = 0
step_depth (IndexStep index brackets) = expr_depth index

abbrev StepsUpTo : ℕ → List StepSyntax → Type 0
StepsUpTo n [] = Unit {0}
StepsUpTo n (t ∷ ts) = (step_depth t ≤ n) × StepsUpTo n ts

part_deep : (n : ℕ) (s : Span) (base : ExprSyntax) (t : StepSyntax) → expr_depth base ≤ n → step_depth t ≤ n → expr_depth (part_of s base t) ≤ n
part_deep n s base (FieldStep field) up more = up
part_deep n s base (IndexStep index brackets) up more = omega arith

stepped_deep : (n : ℕ) (s : Span) (base : ExprSyntax) (ts : List StepSyntax) → expr_depth base ≤ n → StepsUpTo n ts → expr_depth (stepped s base ts) ≤ n
stepped_deep n s base [] up more = up
stepped_deep n s base (t ∷ ts) up more =
    let r = prefix_span s (step_span t) ts in
    stepped_deep n s (part_of r base t) ts (part_deep n r base t up more.0) more.1

steps_deep : (d c limit : ℕ) (steps : List Step) (row : Row Token) → Many (λ t r. AtMost d r (step_depth (step_of t)) c) steps row → Shallow limit row → d ≤ limit
    → StepsUpTo (3 * (limit - d) + c) (map step_of steps)
steps_deep d c limit [] row e shallow up = tt
steps_deep d c limit (t ∷ ts) row (f, g, e, here, later) shallow up =
    let there = subst (Shallow limit) e shallow in
    (here.bound limit (shallow_front limit f g there) up, steps_deep d c limit ts g later (shallow_back limit f g there) up)

deep_as : {d c : ℕ} {row : Row Token} {x e : ExprSyntax} → x ≡ e → AtMost d row (expr_depth e) c → AtMost d row (expr_depth x) c
deep_as {d} {c} {row} is a = subst (λ e. AtMost d row (expr_depth e) c) (sym is) a

deep_chain : (d n : ℕ) (x : Expr) (links : List Link) (f g : Row Token) → AtMost d f (expr_depth (expr_of x)) (logic n) → Many (λ l r. AtMost d r (link_depth (link_of l)) (logic (suc n))) links g
    → AtMost d (f ++ g) (expr_depth (expr_of (tree.with_links x links (span_of (tokens (f ++ g)))))) (logic (suc n))
deep_chain d n x [] f g one more = deep_ahead g (loose (omega arith) one)
deep_chain d n x (l ∷ ls) f g one more =
    let s = span_of (tokens (f ++ g)) in
    deep_as (chain_is x (l ∷ ls) s) (record {
      bound = λ limit shallow up.
          linked_deep (3 * (limit - d) + logic (suc n)) s (expr_of x) (map link_of (l ∷ ls)) (omega (arith, one.bound limit (shallow_front limit f g shallow) up))
          (links_deep d (logic (suc n)) limit (l ∷ ls) g more (shallow_back limit f g shallow) up);
    })

deep_postfix : (d : ℕ) (x : Expr) (steps : List Step) (f g : Row Token) → AtMost d f (expr_depth (expr_of x)) 0 → Many (λ t r. AtMost d r (step_depth (step_of t)) 0) steps g
    → AtMost d (f ++ g) (expr_depth (expr_of (tree.with_steps x steps (span_of (tokens (f ++ g)))))) 0
deep_postfix d x [] f g one more = deep_ahead g one
deep_postfix d x (t ∷ ts) f g one more =
    let s = span_of (tokens (f ++ g)) in
    deep_as (postfix_is x (t ∷ ts) s) (record {
      bound = λ limit shallow up.
          stepped_deep (3 * (limit - d) + 0) s (expr_of x) (map step_of (t ∷ ts)) (one.bound limit (shallow_front limit f g shallow) up)
          (steps_deep d 0 limit (t ∷ ts) g more (shallow_back limit f g shallow) up);
    })

-- ---- all

abbrev Means : (s : Symbol) → Tree s → ℕ → Row Token → Type 0
Means expression x d row = AtMost d row (expr_depth (expr_of x)) 2
Means (chain n) x d row = AtMost d row (expr_depth (expr_of x)) (logic n)
Means (a_link n) l d row = AtMost d row (link_depth (link_of l)) (logic (suc n))
Means operand x d row = AtMost d row (expr_depth (expr_of x)) 0
Means postfix x d row = AtMost d row (expr_depth (expr_of x)) 0
Means a_step t d row = AtMost d row (step_depth (step_of t)) 0
Means primary x d row = AtMost d row (expr_depth (expr_of x)) 0
Means (many s) xs d row = Many (λ x r. Means s x d r) xs row

deep_link : (d n : ℕ) (o : BinOp × Span) (x : Expr) (g : Row Token) → looseness o.0 ≡ n → AtMost d g (expr_depth (expr_of x)) (logic n) → AtMost d g (link_depth (link_of (tree.link o x))) (logic (suc n))
deep_link d n o x g level a = subst (λ (l : LinkSyntax). AtMost d g (link_depth l) (logic (suc n))) (sym (link_is o.0 o.1 x)) (record {
  bound = λ limit shallow up.
      let at_level = op_adds o.0 (expr_depth (expr_of x)) (3 * (limit - d)) (subst (λ k. expr_depth (expr_of x) ≤ 3 * (limit - d) + logic k) (sym level) (a.bound limit shallow up)) in
      subst (λ k. right_depth o.0 (expr_depth (expr_of x)) ≤ 3 * (limit - d) + logic (suc k)) level at_level;
})

deep : (s : Symbol) (x : Tree s) (d : ℕ) (row : Row Token) → Spells s x d row → Means s x d row
deep s x d row grammar.none = refl
deep s x d row (grammar.more {s = t} {x = y} {xs} {f} {g} r rs) = (f, g, refl, deep t y d f r, deep (many t) xs d g rs)
deep s x d row (grammar.plain r) = deep (chain 10) x d row r
deep s x d row (grammar.conditional {x = y} {a} {b} {f} {g} {h} {i} {j} r t u v w) =
    deep_as (cond_is y a b (span_of (tokens row))) (deepest_of (deep_ahead (g ++ (h ++ (i ++ j))) (deep (chain 10) y d f r))
    (deep_behind f (loose (omega arith) (opened t.1 t.2 (deepest_of (deep_ahead (i ++ j) (deep expression a (suc d) h u)) (deep_behind h (deep_behind i (deep expression b (suc d) j w))))))))
deep s x d row (grammar.lone r) = deep operand x d row r
deep s x d row (grammar.linked {n} {x = y} {links} {f} {g} r rs) = deep_chain d n y links f g (deep (chain n) y d f r) (deep (many (a_link n)) links d g rs)
deep s x d row (grammar.link {n} {o} {x = y} {f} {g} t r) = deep_behind f (deep_link d n o y g (level_is n (binary_of t.0.token.kind) t.0.token.span o t.3) (deep (chain n) y d g r))
deep s x d row (grammar.unprefixed r) = deep postfix x d row r
deep s x d row (grammar.negated {x = y} {f} {g} t r isnt) = deep_as (prefix_is prefix.Neg y (span_of (tokens row))) (inner t.1 t.2 (loose (omega arith) (deep operand y (suc d) g r)))
deep s x d row (grammar.prefixed {o} {x = y} {f} {g} t r) = deep_as (prefix_is o y (span_of (tokens row))) (inner t.1 t.2 (loose (omega arith) (deep operand y (suc d) g r)))
deep s x d row (grammar.stepped {x = y} {steps} {f} {g} r rs) = deep_postfix d y steps f g (deep primary y d f r) (deep (many a_step) steps d g rs)
deep s x d row (grammar.field {name} t u) = subst (λ (t : StepSyntax). AtMost d row (step_depth t) 0) (sym (field_step_is name)) flat
deep s x d row (grammar.element {x = y} {f} {g} {h} t r u) =
    subst (λ (t : StepSyntax). AtMost d row (step_depth t) 0) (sym (index_step_is y (span_of (tokens row)))) (inner t.1 t.2 (deep_ahead h (deep expression y (suc d) g r)))
deep s x d row (grammar.number {n} t) = deep_as (literal_is (pos n) (span_of (tokens row))) flat
deep s x d row (grammar.negative {n} t u) = deep_as (literal_is (neg_ℤ (pos n)) (span_of (tokens row))) flat
deep s x d row (grammar.truth {b} t) = deep_as (truth_is b (span_of (tokens row))) flat
deep s x d row (grammar.outcome t) = deep_as (outcome_is (span_of (tokens row))) flat
deep s x d row (grammar.variable {w} t) = deep_as (variable_is w (span_of (tokens row))) flat
deep s x d row (grammar.parentheses {x = y} {f} {g} {h} t r u) = inner t.1 t.2 (deep_ahead h (deep expression y (suc d) g r))
deep s x d row (grammar.cast {k} {x = y} {e} {f} {g} {h} t u r v) = deep_as (cast_is k y (span_of (tokens row))) (deep_behind e (inner u.1 u.2 (deep_ahead h (deep expression y (suc d) g r))))
deep s x d row (grammar.to_index {n} {x = y} {e} {f} {g} {h} {i} {j} t u v w r z) =
    deep_as (to_index_is n y (span_of (tokens row))) (deep_behind e (inner u.1 u.2 (deep_behind g (deep_behind h (deep_ahead j (deep expression y (suc d) i r))))))
deep s x d row (grammar.wrap_index {n} {x = y} {e} {f} {g} {h} {i} {j} t u v w r z) =
    deep_as (wrap_index_is n y (span_of (tokens row))) (deep_behind e (inner u.1 u.2 (deep_behind g (deep_behind h (deep_ahead j (deep expression y (suc d) i r))))))
deep s x d row (grammar.make_bits {w = name} {x = y} {e} {f} {g} {h} {i} {j} t u v w r z) =
    deep_as (make_bits_is name y (span_of (tokens row))) (deep_behind e (inner u.1 u.2 (deep_behind g (deep_behind h (deep_ahead j (deep expression y (suc d) i r))))))
deep s x d row (grammar.raw {x = y} {e} {f} {g} {h} t u r v) = deep_as (raw_is y (span_of (tokens row))) (deep_behind e (inner u.1 u.2 (deep_ahead h (deep expression y (suc d) g r))))
deep s x d row (grammar.set_field {x = y} {value} {name} {e} {f} {g} {h} {i} {j} {k} {l} t u r v w z q p) =
    deep_as (set_field_is y name value (span_of (tokens row))) (deep_behind e (inner u.1 u.2 (deepest_of (deep_ahead (h ++ (i ++ (j ++ (k ++ l)))) (deep expression y (suc d) g r))
    (deep_behind g (deep_behind h (deep_behind i (deep_behind j (deep_ahead l (deep expression value (suc d) k q)))))))))

pub expression_deep : (x : Expr) (d : ℕ) (row : Row Token) → Spells expression x d row → AtMost d row (expr_depth (expr_of x)) 2
expression_deep x d row r = deep expression x d row r

pub postfix_deep : (x : Expr) (d : ℕ) (row : Row Token) → Spells postfix x d row → AtMost d row (expr_depth (expr_of x)) 0
postfix_deep x d row r = deep postfix x d row r
