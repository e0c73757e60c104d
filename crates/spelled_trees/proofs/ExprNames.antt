-- Each name in an expression is the word of a name among its tokens.
use Rattle.std.proofs.Common.{◌≡◌, ℕ, pos, neg_ℤ, suc, List, [], ◌∷◌, ◌++◌, map, refl, sym, subst}
use Rattle.std.specs.Prelude.{All}
use Rattle.std.proofs.lemmas.List.Elements.{All-append}
use Rattle.iv_words.specs.declared.Span.{Span}
use Rattle.ivory_lexer.specs.declared.Token.{Token}
use Rattle.ivory_lexer.specs.declared.TokenKind.{TokenKind}
use Rattle.ivory_lexer.specs.declared.TokenKind.TheVariants as kind
use Rattle.ivory_tree.specs.Syntax as syntax
use Rattle.ivory_tree.specs.Syntax.{Word, ExprSyntax}
use Rattle.ivory_tree.specs.Names.{expr_names}
use Rattle.ivory_tree.specs.Places.{expr_span}
use Rattle.ivory_tree.specs.View.{LinkSyntax, StepSyntax, FieldStep, IndexStep, prefix_span, linked, step_span, part_of, stepped, expr_of, link_of, step_of}
use Rattle.ivory_tree.specs.declared.PrefixOp.TheVariants as op
use Rattle.ivory_tree.specs.declared.Expr.{Expr}
use Rattle.ivory_tree.specs.declared.Link.{Link}
use Rattle.ivory_tree.specs.declared.Step.{Step}
use Rattle.ivory_tree.proofs.View.{literal_is, truth_is, outcome_is, variable_is, cast_is, to_index_is, wrap_index_is, make_bits_is, raw_is, set_field_is, prefix_is, chain_is, postfix_is, cond_is, link_is, field_step_is, index_step_is}
use Rattle.reading.specs.Row.{Row, tokens}
use Rattle.reading.specs.Language.{Many}
use Rattle.expression_grammar.specs.Tokens.{span_of}
use Rattle.expression_grammar.specs.Trees as tree
use Rattle.expression_grammar.specs.Grammar as grammar
use Rattle.expression_grammar.specs.Grammar.{Symbol, expression, chain, a_link, operand, postfix, a_step, primary, many, Tree, Spells}
use Rattle.spelled_trees.proofs.Words.{Each, Told, each_front, each_back, no_names, told_ahead, told_behind, told_both, told_then, told_word, told_name}

module _ (P : TokenKind → Type 0) where
  -- ---- chains and postfixes

  abbrev LinksTold : List LinkSyntax → Type 0
  LinksTold [] = Unit {0}
  LinksTold (l ∷ ls) = All (λ w. P (kind.Name w)) (expr_names l.right) × LinksTold ls

  linked_told : (s : Span) (left : ExprSyntax) (ls : List LinkSyntax) → All (λ w. P (kind.Name w)) (expr_names left) → LinksTold ls → All (λ w. P (kind.Name w)) (expr_names (linked s left ls))
  linked_told s left [] all more = all
  linked_told s left (l ∷ ls) all more =
      linked_told s (syntax.Binary (prefix_span s (expr_span l.right) ls) l.op l.at left l.right) ls (All-append (λ w. P (kind.Name w)) (expr_names left) (expr_names l.right) all more.0) more.1

  links_told : (links : List Link) (row : Row Token) → Many (λ l r. Told P r (expr_names (link_of l).right)) links row → Each P row → LinksTold (map link_of links)
  links_told [] row e each = tt
  links_told (l ∷ ls) row (f, g, e, here, later) each =
      let there = subst (Each P) e each in
      (here.all (each_front P f g there), links_told ls g later (each_back P f g there))

  abbrev step_names : StepSyntax → List Word
  step_names (FieldStep field) = field.text ∷ []
  step_names (IndexStep index brackets) = expr_names index

  abbrev StepsTold : List StepSyntax → Type 0
  StepsTold [] = Unit {0}
  StepsTold (t ∷ ts) = All (λ w. P (kind.Name w)) (step_names t) × StepsTold ts

  part_told : (s : Span) (base : ExprSyntax) (t : StepSyntax) → All (λ w. P (kind.Name w)) (expr_names base) → All (λ w. P (kind.Name w)) (step_names t) → All (λ w. P (kind.Name w)) (expr_names (part_of s base t))
  part_told s base (FieldStep field) all more = All-append (λ w. P (kind.Name w)) (expr_names base) (field.text ∷ []) all more
  part_told s base (IndexStep index brackets) all more = All-append (λ w. P (kind.Name w)) (expr_names base) (expr_names index) all more

  stepped_told : (s : Span) (base : ExprSyntax) (ts : List StepSyntax) → All (λ w. P (kind.Name w)) (expr_names base) → StepsTold ts → All (λ w. P (kind.Name w)) (expr_names (stepped s base ts))
  stepped_told s base [] all more = all
  stepped_told s base (t ∷ ts) all more =
      let r = prefix_span s (step_span t) ts in
      stepped_told s (part_of r base t) ts (part_told r base t all more.0) more.1

  steps_told : (steps : List Step) (row : Row Token) → Many (λ t r. Told P r (step_names (step_of t))) steps row → Each P row → StepsTold (map step_of steps)
  steps_told [] row e each = tt
  steps_told (t ∷ ts) row (f, g, e, here, later) each =
      let there = subst (Each P) e each in
      (here.all (each_front P f g there), steps_told ts g later (each_back P f g there))

  told_as : {row : Row Token} {x e : ExprSyntax} → x ≡ e → Told P row (expr_names e) → Told P row (expr_names x)
  told_as {row} is t = subst (λ e. Told P row (expr_names e)) (sym is) t

  told_chain : (x : Expr) (links : List Link) (f g : Row Token) → Told P f (expr_names (expr_of x)) → Many (λ l r. Told P r (expr_names (link_of l).right)) links g
      → Told P (f ++ g) (expr_names (expr_of (tree.with_links x links (span_of (tokens (f ++ g))))))
  told_chain x [] f g one more = told_ahead g one
  told_chain x (l ∷ ls) f g one more =
      let s = span_of (tokens (f ++ g)) in
      told_as (chain_is x (l ∷ ls) s) (record { all = λ each. linked_told s (expr_of x) (map link_of (l ∷ ls)) (one.all (each_front P f g each)) (links_told (l ∷ ls) g more (each_back P f g each)) })

  told_postfix : (x : Expr) (steps : List Step) (f g : Row Token) → Told P f (expr_names (expr_of x)) → Many (λ t r. Told P r (step_names (step_of t))) steps g
      → Told P (f ++ g) (expr_names (expr_of (tree.with_steps x steps (span_of (tokens (f ++ g))))))
  told_postfix x [] f g one more = told_ahead g one
  told_postfix x (t ∷ ts) f g one more =
      let s = span_of (tokens (f ++ g)) in
      told_as (postfix_is x (t ∷ ts) s) (record { all = λ each. stepped_told s (expr_of x) (map step_of (t ∷ ts)) (one.all (each_front P f g each)) (steps_told (t ∷ ts) g more (each_back P f g each)) })

  -- ---- all

  abbrev Means : (s : Symbol) → Tree s → Row Token → Type 0
  Means expression x row = Told P row (expr_names (expr_of x))
  Means (chain n) x row = Told P row (expr_names (expr_of x))
  Means (a_link n) l row = Told P row (expr_names (link_of l).right)
  Means operand x row = Told P row (expr_names (expr_of x))
  Means postfix x row = Told P row (expr_names (expr_of x))
  Means a_step t row = Told P row (step_names (step_of t))
  Means primary x row = Told P row (expr_names (expr_of x))
  Means (many s) xs row = Many (Means s) xs row

  tell : (s : Symbol) (x : Tree s) (d : ℕ) (row : Row Token) → Spells s x d row → Means s x row
  tell s x d row grammar.none = refl
  tell s x d row (grammar.more {s = t} {x = y} {xs} {f} {g} r rs) = (f, g, refl, tell t y d f r, tell (many t) xs d g rs)
  tell s x d row (grammar.plain r) = tell (chain 10) x d row r
  tell s x d row (grammar.conditional {x = y} {a} {b} {f} {g} {h} {i} {j} r t u v w) =
      told_as (cond_is y a b (span_of (tokens row))) (told_both (told_ahead (g ++ (h ++ (i ++ j))) (tell (chain 10) y d f r))
      (told_both (told_behind f (told_behind g (told_ahead (i ++ j) (tell expression a (suc d) h u)))) (told_behind f (told_behind g (told_behind h (told_behind i (tell expression b (suc d) j w)))))))
  tell s x d row (grammar.lone r) = tell operand x d row r
  tell s x d row (grammar.linked {n} {x = y} {links} {f} {g} r rs) = told_chain y links f g (tell (chain n) y d f r) (tell (many (a_link n)) links d g rs)
  tell s x d row (grammar.link {n} {o} {x = y} {f} {g} t r) = subst (λ (l : LinkSyntax). Told P row (expr_names l.right)) (sym (link_is o.0 o.1 y)) (told_behind f (tell (chain n) y d g r))
  tell s x d row (grammar.unprefixed r) = tell postfix x d row r
  tell s x d row (grammar.negated {x = y} {f} {g} t r isnt) = told_as (prefix_is op.Neg y (span_of (tokens row))) (told_behind f (tell operand y (suc d) g r))
  tell s x d row (grammar.prefixed {o} {x = y} {f} {g} t r) = told_as (prefix_is o y (span_of (tokens row))) (told_behind f (tell operand y (suc d) g r))
  tell s x d row (grammar.stepped {x = y} {steps} {f} {g} r rs) = told_postfix y steps f g (tell primary y d f r) (tell (many a_step) steps d g rs)
  tell s x d row (grammar.field {name} {f} {g} t u) = subst (λ (t : StepSyntax). Told P row (step_names t)) (sym (field_step_is name)) (told_behind f (told_name u.1 u.3))
  tell s x d row (grammar.element {x = y} {f} {g} {h} t r u) =
      subst (λ (t : StepSyntax). Told P row (step_names t)) (sym (index_step_is y (span_of (tokens row)))) (told_behind f (told_ahead h (tell expression y (suc d) g r)))
  tell s x d row (grammar.number {n} t) = told_as (literal_is (pos n) (span_of (tokens row))) no_names
  tell s x d row (grammar.negative {n} t u) = told_as (literal_is (neg_ℤ (pos n)) (span_of (tokens row))) no_names
  tell s x d row (grammar.truth {b} t) = told_as (truth_is b (span_of (tokens row))) no_names
  tell s x d row (grammar.outcome t) = told_as (outcome_is (span_of (tokens row))) no_names
  tell s x d row (grammar.variable {w} t) = told_as (variable_is w (span_of (tokens row))) (told_word t.1 t.3)
  tell s x d row (grammar.parentheses {x = y} {f} {g} {h} t r u) = told_behind f (told_ahead h (tell expression y (suc d) g r))
  tell s x d row (grammar.cast {k} {x = y} {e} {f} {g} {h} t u r v) = told_as (cast_is k y (span_of (tokens row))) (told_behind e (told_behind f (told_ahead h (tell expression y (suc d) g r))))
  tell s x d row (grammar.to_index {n} {x = y} {e} {f} {g} {h} {i} {j} t u v w r z) =
      told_as (to_index_is n y (span_of (tokens row))) (told_behind e (told_behind f (told_behind g (told_behind h (told_ahead j (tell expression y (suc d) i r))))))
  tell s x d row (grammar.wrap_index {n} {x = y} {e} {f} {g} {h} {i} {j} t u v w r z) =
      told_as (wrap_index_is n y (span_of (tokens row))) (told_behind e (told_behind f (told_behind g (told_behind h (told_ahead j (tell expression y (suc d) i r))))))
  tell s x d row (grammar.make_bits {w = name} {x = y} {e} {f} {g} {h} {i} {j} t u v w r z) =
      told_as (make_bits_is name y (span_of (tokens row))) (told_then (told_behind e (told_behind f (told_ahead (h ++ (i ++ j)) (told_word v.1 v.3)))) (told_behind e (told_behind f (told_behind g (told_behind h (told_ahead j (tell expression y (suc d) i r)))))))
  tell s x d row (grammar.raw {x = y} {e} {f} {g} {h} t u r v) = told_as (raw_is y (span_of (tokens row))) (told_behind e (told_behind f (told_ahead h (tell expression y (suc d) g r))))
  tell s x d row (grammar.set_field {x = y} {value} {name} {e} {f} {g} {h} {i} {j} {k} {l} t u r v w z q p) =
      told_as (set_field_is y name value (span_of (tokens row))) (told_both (told_behind e (told_behind f (told_ahead (h ++ (i ++ (j ++ (k ++ l)))) (tell expression y (suc d) g r))))
      (told_then (told_behind e (told_behind f (told_behind g (told_behind h (told_ahead (j ++ (k ++ l)) (told_name w.1 w.3))))))
      (told_behind e (told_behind f (told_behind g (told_behind h (told_behind i (told_behind j (told_ahead l (tell expression value (suc d) k q))))))))))

  pub expression_tells : (x : Expr) (d : ℕ) (row : Row Token) → Spells expression x d row → Told P row (expr_names (expr_of x))
  expression_tells x d row r = tell expression x d row r

  pub postfix_tells : (x : Expr) (d : ℕ) (row : Row Token) → Spells postfix x d row → Told P row (expr_names (expr_of x))
  postfix_tells x d row r = tell postfix x d row r
