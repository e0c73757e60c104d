-- An expression has at most one node for each token.
use Rattle.std.proofs.Common.{◌≡◌, ℕ, pos, neg_ℤ, suc, ◌+◌, ◌≤◌, List, [], ◌∷◌, ◌++◌, map, refl, sym, ap, subst, arith, length}
use Rattle.iv_words.specs.declared.Span.{Span}
use Rattle.ivory_lexer.specs.declared.Token.{Token}
use Rattle.ivory_tree.specs.Syntax as syntax
use Rattle.ivory_tree.specs.Syntax.{ExprSyntax}
use Rattle.ivory_tree.specs.Places.{expr_span}
use Rattle.ivory_tree.specs.View.{LinkSyntax, StepSyntax, FieldStep, IndexStep, prefix_span, linked, step_span, part_of, stepped, expr_of, link_of, step_of}
use Rattle.ivory_tree.specs.Nodes.{expr_node, node_count}
use Rattle.ivory_tree.specs.declared.PrefixOp.TheVariants as op
use Rattle.ivory_tree.specs.declared.Expr.{Expr}
use Rattle.ivory_tree.specs.declared.Link.{Link}
use Rattle.ivory_tree.specs.declared.Step.{Step}
use Rattle.ivory_tree.proofs.View.{literal_is, truth_is, outcome_is, variable_is, cast_is, to_index_is, wrap_index_is, make_bits_is, raw_is, set_field_is, prefix_is, chain_is, postfix_is, cond_is, link_is, field_step_is, index_step_is}
use Rattle.reading.specs.Row.{Row, tokens}
use Rattle.reading.specs.Language.{Many}
use Rattle.expression_grammar.specs.Tokens.{span_of}
use Rattle.expression_grammar.specs.Trees as tree
use Rattle.expression_grammar.specs.Grammar as grammar
use Rattle.expression_grammar.specs.Grammar.{Symbol, expression, chain, a_link, operand, postfix, a_step, primary, many, Tree, Spells}
use Rattle.spelled_trees.proofs.Sizes.{both_long, one_long, Few}

abbrev pub expr_nodes : ExprSyntax → ℕ
expr_nodes e = node_count (expr_node e)

pub record ExprFew (row : Row Token) (e : ExprSyntax) : Type 0 where
  pub count : expr_nodes e ≤ length row

-- ---- chains and postfixes

-- a link adds its right operand's nodes and that of the chain up to it
abbrev link_nodes : LinkSyntax → ℕ
link_nodes l = 1 + expr_nodes l.right

abbrev links_nodes : List LinkSyntax → ℕ
links_nodes [] = 0
links_nodes (l ∷ ls) = link_nodes l + links_nodes ls

linked_nodes : (s : Span) (left : ExprSyntax) (ls : List LinkSyntax) → expr_nodes (linked s left ls) ≡ expr_nodes left + links_nodes ls
linked_nodes s left [] = omega arith
linked_nodes s left (l ∷ ls) = let h = linked_nodes s (syntax.Binary (prefix_span s (expr_span l.right) ls) l.op l.at left l.right) ls in omega (arith, h)

abbrev step_nodes : StepSyntax → ℕ
step_nodes (FieldStep field) = 1
step_nodes (IndexStep index brackets) = 1 + expr_nodes index

abbrev steps_nodes : List StepSyntax → ℕ
steps_nodes [] = 0
steps_nodes (t ∷ ts) = step_nodes t + steps_nodes ts

part_nodes : (s : Span) (base : ExprSyntax) (t : StepSyntax) → expr_nodes (part_of s base t) ≡ expr_nodes base + step_nodes t
part_nodes s base (FieldStep field) = omega arith
part_nodes s base (IndexStep index brackets) = omega arith

stepped_nodes : (s : Span) (base : ExprSyntax) (ts : List StepSyntax) → expr_nodes (stepped s base ts) ≡ expr_nodes base + steps_nodes ts
stepped_nodes s base [] = omega arith
stepped_nodes s base (t ∷ ts) =
    let r = prefix_span s (step_span t) ts in
    omega (arith, part_nodes r base t, stepped_nodes s (part_of r base t) ts)

record FewLink (row : Row Token) (l : LinkSyntax) : Type 0 where
  count : link_nodes l ≤ length row

record FewStep (row : Row Token) (t : StepSyntax) : Type 0 where
  count : step_nodes t ≤ length row

few_links : (links : List Link) (row : Row Token) → Many (λ l r. FewLink r (link_of l)) links row → links_nodes (map link_of links) ≤ length row
few_links [] row e = omega arith
few_links (l ∷ ls) row (f, g, e, here, later) = omega (arith, ap length e, both_long f g, here.count, few_links ls g later)

few_steps : (steps : List Step) (row : Row Token) → Many (λ t r. FewStep r (step_of t)) steps row → steps_nodes (map step_of steps) ≤ length row
few_steps [] row e = omega arith
few_steps (t ∷ ts) row (f, g, e, here, later) = omega (arith, ap length e, both_long f g, here.count, few_steps ts g later)

few_chain : (x : Expr) (links : List Link) (f g : Row Token) → ExprFew f (expr_of x) → Many (λ l r. FewLink r (link_of l)) links g → ExprFew (f ++ g) (expr_of (tree.with_links x links (span_of (tokens (f ++ g)))))
few_chain x [] f g one e = record { count = omega (arith, one.count, both_long f g) }
few_chain x (l ∷ ls) f g one more =
    let s = span_of (tokens (f ++ g)) in
    subst (ExprFew (f ++ g)) (sym (chain_is x (l ∷ ls) s)) (record { count = omega (arith, one.count, both_long f g, few_links (l ∷ ls) g more, linked_nodes s (expr_of x) (map link_of (l ∷ ls))) })

few_steps_on : (x : Expr) (steps : List Step) (f g : Row Token) → ExprFew f (expr_of x) → Many (λ t r. FewStep r (step_of t)) steps g → ExprFew (f ++ g) (expr_of (tree.with_steps x steps (span_of (tokens (f ++ g)))))
few_steps_on x [] f g one e = record { count = omega (arith, one.count, both_long f g) }
few_steps_on x (t ∷ ts) f g one more =
    let s = span_of (tokens (f ++ g)) in
    subst (ExprFew (f ++ g)) (sym (postfix_is x (t ∷ ts) s)) (record { count = omega (arith, one.count, both_long f g, few_steps (t ∷ ts) g more, stepped_nodes s (expr_of x) (map step_of (t ∷ ts))) })

-- ---- all

abbrev Means : (s : Symbol) → Tree s → Row Token → Type 0
Means expression x row = ExprFew row (expr_of x)
Means (chain n) x row = ExprFew row (expr_of x)
Means (a_link n) l row = FewLink row (link_of l)
Means operand x row = ExprFew row (expr_of x)
Means postfix x row = ExprFew row (expr_of x)
Means a_step t row = FewStep row (step_of t)
Means primary x row = ExprFew row (expr_of x)
Means (many s) xs row = Many (Means s) xs row

few : (s : Symbol) (x : Tree s) (d : ℕ) (row : Row Token) → Spells s x d row → Means s x row
few s x d row grammar.none = refl
few s x d row (grammar.more {s = t} {x = y} {xs} {f} {g} r rs) = (f, g, refl, few t y d f r, few (many t) xs d g rs)
few s x d row (grammar.plain r) = few (chain 10) x d row r
few s x d row (grammar.conditional {x = y} {a} {b} {f} {g} {h} {i} {j} r t u v w) =
    subst (ExprFew row) (sym (cond_is y a b (span_of (tokens row)))) (record {
      count = omega (arith, (few (chain 10) y d f r).count, (few expression a (suc d) h u).count, (few expression b (suc d) j w).count, one_long t.1, one_long v.1, both_long);
    })
few s x d row (grammar.lone r) = few operand x d row r
few s x d row (grammar.linked {n} {x = y} {links} {f} {g} r rs) = few_chain y links f g (few (chain n) y d f r) (few (many (a_link n)) links d g rs)
few s x d row (grammar.link {n} {o} {x = y} {f} {g} t r) =
    subst (FewLink row) (sym (link_is o.0 o.1 y)) (record { count = omega (arith, (few (chain n) y d g r).count, one_long t.1, both_long) })
few s x d row (grammar.unprefixed r) = few postfix x d row r
few s x d row (grammar.negated {x = y} {f} {g} t r isnt) =
    subst (ExprFew row) (sym (prefix_is op.Neg y (span_of (tokens row)))) (record { count = omega (arith, (few operand y (suc d) g r).count, one_long t.1, both_long) })
few s x d row (grammar.prefixed {o} {x = y} {f} {g} t r) =
    subst (ExprFew row) (sym (prefix_is o y (span_of (tokens row)))) (record { count = omega (arith, (few operand y (suc d) g r).count, one_long t.1, both_long) })
few s x d row (grammar.stepped {x = y} {steps} {f} {g} r rs) = few_steps_on y steps f g (few primary y d f r) (few (many a_step) steps d g rs)
few s x d row (grammar.field {name} {f} {g} t u) = subst (FewStep row) (sym (field_step_is name)) (record { count = omega (arith, one_long t.1, both_long) })
few s x d row (grammar.element {x = y} {f} {g} {h} t r u) =
    subst (FewStep row) (sym (index_step_is y (span_of (tokens row)))) (record { count = omega (arith, (few expression y (suc d) g r).count, one_long t.1, both_long) })
few s x d row (grammar.number {n} t) = subst (ExprFew row) (sym (literal_is (pos n) (span_of (tokens row)))) (record { count = omega (arith, one_long t.1) })
few s x d row (grammar.negative {n} {f} {g} t u) = subst (ExprFew row) (sym (literal_is (neg_ℤ (pos n)) (span_of (tokens row)))) (record { count = omega (arith, one_long t.1, both_long) })
few s x d row (grammar.truth {b} t) = subst (ExprFew row) (sym (truth_is b (span_of (tokens row)))) (record { count = omega (arith, one_long t.1) })
few s x d row (grammar.outcome t) = subst (ExprFew row) (sym (outcome_is (span_of (tokens row)))) (record { count = omega (arith, one_long t.1) })
few s x d row (grammar.variable {w} t) = subst (ExprFew row) (sym (variable_is w (span_of (tokens row)))) (record { count = omega (arith, one_long t.1) })
few s x d row (grammar.parentheses {x = y} {f} {g} {h} t r u) = record { count = omega (arith, (few expression y (suc d) g r).count, both_long) }
few s x d row (grammar.cast {k} {x = y} {e} {f} {g} {h} t u r v) =
    subst (ExprFew row) (sym (cast_is k y (span_of (tokens row)))) (record { count = omega (arith, (few expression y (suc d) g r).count, one_long t.1, both_long) })
few s x d row (grammar.to_index {n} {x = y} {e} {f} {g} {h} {i} {j} t u v w r z) =
    subst (ExprFew row) (sym (to_index_is n y (span_of (tokens row)))) (record { count = omega (arith, (few expression y (suc d) i r).count, one_long t.1, both_long) })
few s x d row (grammar.wrap_index {n} {x = y} {e} {f} {g} {h} {i} {j} t u v w r z) =
    subst (ExprFew row) (sym (wrap_index_is n y (span_of (tokens row)))) (record { count = omega (arith, (few expression y (suc d) i r).count, one_long t.1, both_long) })
few s x d row (grammar.make_bits {w = name} {x = y} {e} {f} {g} {h} {i} {j} t u v w r z) =
    subst (ExprFew row) (sym (make_bits_is name y (span_of (tokens row)))) (record { count = omega (arith, (few expression y (suc d) i r).count, one_long t.1, both_long) })
few s x d row (grammar.raw {x = y} {e} {f} {g} {h} t u r v) =
    subst (ExprFew row) (sym (raw_is y (span_of (tokens row)))) (record { count = omega (arith, (few expression y (suc d) g r).count, one_long t.1, both_long) })
few s x d row (grammar.set_field {x = y} {value} {name} {e} {f} {g} {h} {i} {j} {k} {l} t u r v w z q p) =
    subst (ExprFew row) (sym (set_field_is y name value (span_of (tokens row)))) (record { count = omega (arith, (few expression y (suc d) g r).count, (few expression value (suc d) k q).count, one_long t.1, both_long) })

twice : (row : Row Token) (e : ExprSyntax) → ExprFew row e → Few row (expr_node e)
twice row e one = record { count = omega (arith, one.count) }

pub expression_has_one_each : (x : Expr) (d : ℕ) (row : Row Token) → Spells expression x d row → expr_nodes (expr_of x) ≤ length row
expression_has_one_each x d row r = (few expression x d row r).count

pub few_expression : (x : Expr) (d : ℕ) (row : Row Token) → Spells expression x d row → Few row (expr_node (expr_of x))
few_expression x d row r = twice row (expr_of x) (few expression x d row r)

pub few_postfix : (x : Expr) (d : ℕ) (row : Row Token) → Spells postfix x d row → Few row (expr_node (expr_of x))
few_postfix x d row r = twice row (expr_of x) (few postfix x d row r)
