-- Expressions stand where their tokens stand, and have the form of a tree.
use Rattle.std.proofs.Common.{◌≡◌, ℕ, pos, neg_ℤ, Option, Some, None, suc, ◌<◌, ◌≤◌, List, [], ◌∷◌, ◌++◌, map, refl, sym, ap, ◌∙◌, subst, arith}
use Rattle.iv_words.specs.declared.Name.{Name}
use Rattle.iv_words.specs.declared.Span.{Span}
use Rattle.ivory_lexer.specs.declared.Token.{Token}
use Rattle.ivory_tree.specs.Syntax as syntax
use Rattle.ivory_tree.specs.Syntax.{Word, ExprSyntax}
use Rattle.ivory_tree.specs.Places.{expr_span}
use Rattle.ivory_tree.specs.View.{LinkSyntax, StepSyntax, FieldStep, IndexStep, prefix_span, linked, step_span, part_of, stepped, expr_of, link_of, step_of}
use Rattle.ivory_tree.specs.Nodes.{At, Nodes, Nil, Cons, place, expr_node}
use Rattle.ivory_tree.specs.Formed.{FormedExpr, Before}
use Rattle.ivory_tree.specs.declared.BinOp.{BinOp}
use Rattle.ivory_tree.specs.declared.PrefixOp.{PrefixOp}
use Rattle.ivory_tree.specs.declared.PrefixOp.TheVariants as op
use Rattle.ivory_tree.specs.declared.Expr.{Expr}
use Rattle.ivory_tree.specs.declared.Link.{Link}
use Rattle.ivory_tree.specs.declared.Step.{Step}
use Rattle.ivory_tree.proofs.View.{literal_is, truth_is, outcome_is, variable_is, cast_is, to_index_is, wrap_index_is, make_bits_is, raw_is, set_field_is, prefix_is, chain_is, postfix_is, cond_is, link_is, field_step_is, index_step_is}
use Rattle.reading.specs.Row.{Row, tokens}
use Rattle.reading.specs.Language.{Terminal, Many}
use Rattle.reading.proofs.Rows.{append_nil}
use Rattle.expression_grammar.specs.Tokens.{span_of, word_of, named, name_of}
use Rattle.expression_grammar.specs.Operators.{binary_of, of_level, with_place, operator}
use Rattle.expression_grammar.specs.Trees as tree
use Rattle.expression_grammar.specs.Grammar as grammar
use Rattle.expression_grammar.specs.Grammar.{Symbol, expression, chain, a_link, operand, postfix, a_step, primary, many, Tree, Spells}
use Rattle.spelled_trees.proofs.Order.{Ordered, Where, always, both, all_three, ahead, behind, upward, split, Filled, filled_front, filled_token, tight, TokenPlace, token_place}
use Rattle.spelled_trees.proofs.Places.{Inside, not_empty, no_nodes, wider, one_more, node_inside, Lies, AllLie, lie_none, lie_behind, lie_then, lies_alone, lies_ahead, lies_behind, lies_at, filled_node, begins_later, Stands}

pub place_of_node : (e : ExprSyntax) → place (expr_node e) ≡ expr_span e
place_of_node (syntax.Literal s value) = refl
place_of_node (syntax.Truth s value) = refl
place_of_node (syntax.Outcome s) = refl
place_of_node (syntax.Variable s name) = refl
place_of_node (syntax.Cast s kind e) = refl
place_of_node (syntax.ToIndex s length e) = refl
place_of_node (syntax.WrapIndex s length e) = refl
place_of_node (syntax.MakeBits s name e) = refl
place_of_node (syntax.Raw s e) = refl
place_of_node (syntax.SetField s e field value) = refl
place_of_node (syntax.Prefix s op e) = refl
place_of_node (syntax.Binary s op at left right) = refl
place_of_node (syntax.Field s e field) = refl
place_of_node (syntax.Element s brackets e index) = refl
place_of_node (syntax.Cond s test first second) = refl
place_of_node (syntax.Bare s e) = refl

-- between two places
pub record Sound (low high : ℕ) (e : ExprSyntax) : Type 0 where
  pub inside : Inside low high (expr_node e)
  pub formed : FormedExpr e

abbrev pub ExprStands : Row Token → ExprSyntax → Type 0
ExprStands row e = Stands expr_node FormedExpr row e

pub before : (f : Row Token) {g : Row Token} (e : ExprSyntax) {ns : Nodes} → Filled f → AllLie g (Cons (expr_node e) ns) → Where (f ++ g) (Before (span_of (tokens (f ++ g))) e)
before f {g} e filled l = record { holds = λ o. subst (λ (p : Span). (span_of (tokens (f ++ g))).start < p.start) (place_of_node e) ((begins_later f filled l).holds o) }

-- ---- chains

record LinkInside (low high : ℕ) (l : LinkSyntax) : Type 0 where
  begins : low ≤ l.at.start
  some : l.at.start < l.at.end
  right : Sound l.at.end high l.right

abbrev LinksInside : ℕ → ℕ → List LinkSyntax → Type 0
LinksInside low high [] = low ≤ high
LinksInside low high (l ∷ ls) = (mid : ℕ) × LinkInside low mid l × LinksInside mid high ls

record LinkLies (row : Row Token) (l : LinkSyntax) : Type 0 where
  inside : {low high : ℕ} → Ordered low row high → LinkInside low high l

-- one link more
joined : (s : Span) (mid : ℕ) (left : ExprSyntax) (l : LinkSyntax) → Sound s.start mid left → LinkInside mid s.end l → Sound s.start s.end (syntax.Binary s l.op l.at left l.right)
joined s mid left l x i =
    let from : (expr_span left).end ≤ mid = subst (λ (p : Span). p.end ≤ mid) (place_of_node left) x.inside.ends in
    let to : l.at.end ≤ (expr_span l.right).start = subst (λ (p : Span). l.at.end ≤ p.start) (place_of_node l.right) i.right.inside.begins in
    let right : Inside mid s.end (expr_node l.right) = wider (omega (arith, i.begins, i.some)) (omega arith) i.right.inside in
    let some : s.start < s.end = omega (arith, not_empty (expr_node left) x.inside.placed, x.inside.begins, right.begins, right.ends, not_empty (expr_node l.right) right.placed) in
    record {
      inside = node_inside (omega arith) some (omega arith) (one_more x.inside (one_more right (no_nodes {low = s.end} (omega arith))));
      formed = ((omega (arith, i.begins), i.some, to), x.formed, i.right.formed);
    }

-- an operand with the links after it
all_joined : (s : Span) (mid : ℕ) (left : ExprSyntax) (l : LinkSyntax) (ls : List LinkSyntax) → Sound s.start mid left → LinksInside mid s.end (l ∷ ls) → Sound s.start s.end (linked s left (l ∷ ls))
all_joined s mid left l [] x (high, i, up) =
    joined s mid left l x (record { begins = i.begins; some = i.some; right = record { inside = wider (omega arith) up i.right.inside; formed = i.right.formed } })
all_joined s mid left l (m ∷ ls) x (next, i, is) =
    let t : Span = prefix_span s (expr_span l.right) (m ∷ ls) in
    let there = place_of_node l.right in
    let right : Inside l.at.end t.end (expr_node l.right) = record { begins = i.right.inside.begins; placed = i.right.inside.placed; ends = subst (λ (p : Span). p.end ≤ t.end) (sym there) (omega arith) } in
    let ends : t.end ≤ next = subst (λ (p : Span). p.end ≤ next) there i.right.inside.ends in
    let j : LinkInside mid t.end l = record { begins = i.begins; some = i.some; right = record { inside = right; formed = i.right.formed } } in
    let y : Sound t.start t.end (syntax.Binary t l.op l.at left l.right) = joined t mid left l x j in
    all_joined s next (syntax.Binary t l.op l.at left l.right) m ls (record { inside = wider (omega arith) ends y.inside; formed = y.formed }) is

-- the links that rows spell, one after another
links_inside : (links : List Link) (row : Row Token) (low high : ℕ) → Many (λ l r. LinkLies r (link_of l)) links row → Ordered low row high → LinksInside low high (map link_of links)
links_inside [] row low high e o = upward o
links_inside (l ∷ ls) row low high (f, g, e, here, later) o =
    let m = split f g (subst (λ r. Ordered low r high) e o) in
    (m.here, here.inside m.front, links_inside ls g m.here high later m.back)

chained : (x : Expr) (links : List Link) (f g : Row Token) → ExprStands f (expr_of x) → Many (λ l r. LinkLies r (link_of l)) links g → ExprStands (f ++ g) (expr_of (tree.with_links x links (span_of (tokens (f ++ g)))))
chained x [] f g st e = subst (λ r. ExprStands r (expr_of x)) (sym (ap (λ r. f ++ r) e ∙ append_nil f)) st
chained x (l ∷ ls) f g st lie =
    let s = span_of (tokens (f ++ g)) in
    let sound = λ (low high : ℕ) (o : Ordered low (f ++ g) high).
    let all_of = tight (f ++ g) (filled_front f g (filled_node f (expr_node (expr_of x)) st.lies)) o in
    let m = split f g all_of.inside in
    let all : Sound s.start s.end (linked s (expr_of x) (map link_of (l ∷ ls))) =
    all_joined s m.here (expr_of x) (link_of l) (map link_of ls) (record { inside = st.lies.inside m.front; formed = st.formed.holds m.front }) (links_inside (l ∷ ls) g m.here s.end lie m.back) in
    let there : Sound low high (linked s (expr_of x) (map link_of (l ∷ ls))) = record { inside = wider all_of.begins all_of.ends all.inside; formed = all.formed } in
    there in
    subst (ExprStands (f ++ g)) (sym (chain_is x (l ∷ ls) s)) (record { lies = record { inside = λ o. (sound _ _ o).inside }; formed = record { holds = λ o. (sound _ _ o).formed } })

-- ---- postfixes

abbrev StepInside : ℕ → ℕ → StepSyntax → Type 0
StepInside low high (FieldStep field) = (low < field.span.end) × (field.span.end ≤ high)
StepInside low high (IndexStep index brackets) = Sound low brackets.end index × (brackets.end ≤ high)

abbrev StepsInside : ℕ → ℕ → List StepSyntax → Type 0
StepsInside low high [] = low ≤ high
StepsInside low high (t ∷ ts) = (mid : ℕ) × StepInside low mid t × StepsInside mid high ts

record StepLies (row : Row Token) (t : StepSyntax) : Type 0 where
  inside : {low high : ℕ} → Ordered low row high → StepInside low high t

step_ends : (low high : ℕ) (t : StepSyntax) → StepInside low high t → (low < (step_span t).end) × ((step_span t).end ≤ high)
step_ends low high (FieldStep field) i = i
step_ends low high (IndexStep index brackets) (i, up) = (omega (arith, i.inside.begins, i.inside.ends, not_empty (expr_node index) i.inside.placed), up)

-- one step more, up to its last token or a later place
parted : (s : Span) (mid high : ℕ) (base : ExprSyntax) (t : StepSyntax) → Sound s.start mid base → StepInside mid high t → (step_span t).end ≤ s.end → Sound s.start s.end (part_of s base t)
parted s mid high base (FieldStep field) x i up =
    let some : s.start < s.end = omega (arith, x.inside.begins, x.inside.ends, not_empty (expr_node base) x.inside.placed, i.0) in
    record { inside = node_inside (omega arith) some (omega arith) (one_more x.inside (no_nodes {low = mid} {high = s.end} (omega (arith, i.0)))); formed = x.formed }
parted s mid high base (IndexStep index brackets) x (i, before) up =
    let inner : Inside mid s.end (expr_node index) = wider (omega arith) up i.inside in
    let some : s.start < s.end = omega (arith, x.inside.begins, x.inside.ends, not_empty (expr_node base) x.inside.placed, inner.begins, inner.ends, not_empty (expr_node index) inner.placed) in
    record { inside = node_inside (omega arith) some (omega arith) (one_more x.inside (one_more inner (no_nodes {low = s.end} (omega arith)))); formed = (x.formed, i.formed) }

all_parted : (s : Span) (mid : ℕ) (base : ExprSyntax) (t : StepSyntax) (ts : List StepSyntax) → Sound s.start mid base → StepsInside mid s.end (t ∷ ts) → Sound s.start s.end (stepped s base (t ∷ ts))
all_parted s mid base t [] x (high, i, up) = parted s mid high base t x i (omega (arith, (step_ends mid high t i).1))
all_parted s mid base t (u ∷ ts) x (next, i, is) =
    let r : Span = prefix_span s (step_span t) (u ∷ ts) in
    let y : Sound r.start r.end (part_of r base t) = parted r mid next base t x i (omega arith) in
    all_parted s next (part_of r base t) u ts (record { inside = wider (omega arith) (step_ends mid next t i).1 y.inside; formed = y.formed }) is

-- the steps that rows spell, one after another
steps_inside : (steps : List Step) (row : Row Token) (low high : ℕ) → Many (λ t r. StepLies r (step_of t)) steps row → Ordered low row high → StepsInside low high (map step_of steps)
steps_inside [] row low high e o = upward o
steps_inside (t ∷ ts) row low high (f, g, e, here, later) o =
    let m = split f g (subst (λ r. Ordered low r high) e o) in
    (m.here, here.inside m.front, steps_inside ts g m.here high later m.back)

with_parts : (x : Expr) (steps : List Step) (f g : Row Token) → ExprStands f (expr_of x) → Many (λ t r. StepLies r (step_of t)) steps g → ExprStands (f ++ g) (expr_of (tree.with_steps x steps (span_of (tokens (f ++ g)))))
with_parts x [] f g st e = subst (λ r. ExprStands r (expr_of x)) (sym (ap (λ r. f ++ r) e ∙ append_nil f)) st
with_parts x (t ∷ ts) f g st lie =
    let s = span_of (tokens (f ++ g)) in
    let sound = λ (low high : ℕ) (o : Ordered low (f ++ g) high).
    let all_of = tight (f ++ g) (filled_front f g (filled_node f (expr_node (expr_of x)) st.lies)) o in
    let m = split f g all_of.inside in
    let all : Sound s.start s.end (stepped s (expr_of x) (map step_of (t ∷ ts))) =
    all_parted s m.here (expr_of x) (step_of t) (map step_of ts) (record { inside = st.lies.inside m.front; formed = st.formed.holds m.front }) (steps_inside (t ∷ ts) g m.here s.end lie m.back) in
    let there : Sound low high (stepped s (expr_of x) (map step_of (t ∷ ts))) = record { inside = wider all_of.begins all_of.ends all.inside; formed = all.formed } in
    there in
    subst (ExprStands (f ++ g)) (sym (postfix_is x (t ∷ ts) s)) (record { lies = record { inside = λ o. (sound _ _ o).inside }; formed = record { holds = λ o. (sound _ _ o).formed } })

-- ---- single forms

leaf : (row : Row Token) (x : Expr) (e : ExprSyntax) → expr_of x ≡ e → expr_node e ≡ At (span_of (tokens row)) Nil → FormedExpr e → Filled row → ExprStands row (expr_of x)
leaf row x e is node formed filled =
    subst (ExprStands row) (sym is) (record { lies = subst (Lies row) (sym node) (lies_at filled lie_none); formed = always formed })

placed_operator : (o : Option BinOp) (s : Span) (p : BinOp × Span) → with_place o s ≡ Some p → p.1 ≡ s
placed_operator None s p e = cc
placed_operator (Some o) s p e = cc

placed_name : (w : Option Word) (s : Span) (name : Name) → named w s ≡ Some name → name.span ≡ s
placed_name None s name e = cc
placed_name (Some w) s name e = let is : record { text = w; span = s } ≡ name = cc in ap (λ (n : Name). n.span) (sym is)

a_link_lies : (n d : ℕ) (o : BinOp × Span) (x : Expr) (f g : Row Token) → Terminal d (operator n) o f → ExprStands g (expr_of x) → LinkLies (f ++ g) (link_of (tree.link o x))
a_link_lies n d o x f g t st =
    subst (LinkLies (f ++ g)) (sym (link_is o.0 o.1 x)) (record {
      inside = λ {low} {high} order.
          let m = split f g order in
          let at : TokenPlace low t.0.token m.here = token_place t.1 m.front in
          let there : o.1 ≡ t.0.token.span = placed_operator (of_level n (binary_of t.0.token.kind)) t.0.token.span o t.3 in
          let right : Inside t.0.token.span.end high (expr_node (expr_of x)) = wider at.ends (omega arith) (st.lies.inside m.back) in
          record {
            begins = subst (λ (p : Span). low ≤ p.start) (sym there) at.begins;
            some = subst (λ (p : Span). p.start < p.end) (sym there) at.some;
            right = record { inside = subst (λ (p : Span). Inside p.end high (expr_node (expr_of x))) (sym there) right; formed = st.formed.holds m.back };
          };
    })

field_lies : (d : ℕ) (name : Name) (f g : Row Token) → Terminal d name_of name g → StepLies (f ++ g) (step_of (tree.field name))
field_lies d name f g t =
    subst (StepLies (f ++ g)) (sym (field_step_is name)) (record {
      inside = λ {low} {high} order.
          let m = split f g order in
          let at : TokenPlace m.here t.0.token high = token_place t.1 m.back in
          let there : name.span ≡ t.0.token.span = placed_name (word_of t.0.token) t.0.token.span name t.3 in
          let up : low ≤ m.here = upward m.front in
          (subst (λ (p : Span). low < p.end) (sym there) (omega (arith, at.begins, at.some)), subst (λ (p : Span). p.end ≤ high) (sym there) at.ends);
    })

element_lies : (x : Expr) (f g h : Row Token) → Filled f → ExprStands g (expr_of x) → StepLies (f ++ (g ++ h)) (step_of (tree.index x (span_of (tokens (f ++ (g ++ h))))))
element_lies x f g h filled st =
    subst (StepLies (f ++ (g ++ h))) (sym (index_step_is x (span_of (tokens (f ++ (g ++ h)))))) (record {
      inside = λ {low} {high} order.
          let all = tight (f ++ (g ++ h)) (filled_front f (g ++ h) filled) order in
          let inner = (lies_behind f (lies_ahead h st.lies)).inside all.inside in
          (record { inside = wider all.begins (omega arith) inner; formed = (behind f (ahead h st.formed)).holds order }, all.ends);
    })

after_prefix : (o : PrefixOp) (x : Expr) (f g : Row Token) → Filled f → ExprStands g (expr_of x) → ExprStands (f ++ g) (expr_of (tree.prefixed_by o x (span_of (tokens (f ++ g)))))
after_prefix o x f g filled st = subst (ExprStands (f ++ g)) (sym (prefix_is o x (span_of (tokens (f ++ g))))) (record {
  lies = lies_at (filled_front f g filled) (lie_behind f (lies_alone st.lies));
  formed = both (before f (expr_of x) filled (lies_alone st.lies)) (behind f st.formed);
})

-- ---- all

abbrev Means : (s : Symbol) → Tree s → Row Token → Type 0
Means expression x row = ExprStands row (expr_of x)
Means (chain n) x row = ExprStands row (expr_of x)
Means (a_link n) l row = LinkLies row (link_of l)
Means operand x row = ExprStands row (expr_of x)
Means postfix x row = ExprStands row (expr_of x)
Means a_step t row = StepLies row (step_of t)
Means primary x row = ExprStands row (expr_of x)
Means (many s) xs row = Many (Means s) xs row

stand : (s : Symbol) (x : Tree s) (d : ℕ) (row : Row Token) → Spells s x d row → Means s x row
stand s x d row grammar.none = refl
stand s x d row (grammar.more {s = t} {x = y} {xs} {f} {g} r rs) = (f, g, refl, stand t y d f r, stand (many t) xs d g rs)
stand s x d row (grammar.plain r) = stand (chain 10) x d row r
stand s x d row (grammar.conditional {x = y} {a} {b} {f} {g} {h} {i} {j} r t u v w) =
    let one = stand (chain 10) y d f r in
    let two = stand expression a (suc d) h u in
    let three = stand expression b (suc d) j w in
    subst (ExprStands row) (sym (cond_is y a b (span_of (tokens row)))) (record {
      lies = lies_at (filled_front f (g ++ (h ++ (i ++ j))) (filled_node f (expr_node (expr_of y)) one.lies)) (lie_then one.lies (lie_behind g (lie_then two.lies (lie_behind i (lies_alone three.lies)))));
      formed = all_three (ahead (g ++ (h ++ (i ++ j))) one.formed) (behind f (behind g (ahead (i ++ j) two.formed))) (behind f (behind g (behind h (behind i three.formed))));
    })
stand s x d row (grammar.lone r) = stand operand x d row r
stand s x d row (grammar.linked {n} {x = y} {links} {f} {g} r rs) = chained y links f g (stand (chain n) y d f r) (stand (many (a_link n)) links d g rs)
stand s x d row (grammar.link {n} {o} {x = y} {f} {g} t r) = a_link_lies n d o y f g t (stand (chain n) y d g r)
stand s x d row (grammar.unprefixed r) = stand postfix x d row r
stand s x d row (grammar.negated {x = y} {f} {g} t r isnt) = after_prefix op.Neg y f g (filled_token t.1) (stand operand y (suc d) g r)
stand s x d row (grammar.prefixed {o} {x = y} {f} {g} t r) = after_prefix o y f g (filled_token t.1) (stand operand y (suc d) g r)
stand s x d row (grammar.stepped {x = y} {steps} {f} {g} r rs) = with_parts y steps f g (stand primary y d f r) (stand (many a_step) steps d g rs)
stand s x d row (grammar.field {name} {f} {g} t u) = field_lies d name f g u
stand s x d row (grammar.element {x = y} {f} {g} {h} t r u) = element_lies y f g h (filled_token t.1) (stand expression y (suc d) g r)
stand s x d row (grammar.number {n} t) = leaf row x (syntax.Literal (span_of (tokens row)) (pos n)) (literal_is (pos n) (span_of (tokens row))) refl tt (filled_token t.1)
stand s x d row (grammar.negative {n} {f} {g} t u) =
    leaf row x (syntax.Literal (span_of (tokens row)) (neg_ℤ (pos n))) (literal_is (neg_ℤ (pos n)) (span_of (tokens row))) refl tt (filled_front f g (filled_token t.1))
stand s x d row (grammar.truth {b} t) = leaf row x (syntax.Truth (span_of (tokens row)) b) (truth_is b (span_of (tokens row))) refl tt (filled_token t.1)
stand s x d row (grammar.outcome t) = leaf row x (syntax.Outcome (span_of (tokens row))) (outcome_is (span_of (tokens row))) refl tt (filled_token t.1)
stand s x d row (grammar.variable {w} t) = leaf row x (syntax.Variable (span_of (tokens row)) w) (variable_is w (span_of (tokens row))) refl tt (filled_token t.1)
stand s x d row (grammar.parentheses {x = y} {f} {g} {h} t r u) =
    let one = stand expression y (suc d) g r in
    record { lies = lies_behind f (lies_ahead h one.lies); formed = behind f (ahead h one.formed) }
stand s x d row (grammar.cast {k} {x = y} {e} {f} {g} {h} t u r v) =
    let one = stand expression y (suc d) g r in
    subst (ExprStands row) (sym (cast_is k y (span_of (tokens row)))) (record {
      lies = lies_at (filled_front e (f ++ (g ++ h)) (filled_token t.1)) (lie_behind e (lie_behind f (lie_then one.lies lie_none)));
      formed = both (before e (expr_of y) (filled_token t.1) (lie_behind f (lie_then one.lies lie_none))) (behind e (behind f (ahead h one.formed)));
    })
stand s x d row (grammar.to_index {n} {x = y} {e} {f} {g} {h} {i} {j} t u v w r z) =
    let one = stand expression y (suc d) i r in
    subst (ExprStands row) (sym (to_index_is n y (span_of (tokens row)))) (record {
      lies = lies_at (filled_front e (f ++ (g ++ (h ++ (i ++ j)))) (filled_token t.1)) (lie_behind e (lie_behind f (lie_behind g (lie_behind h (lie_then one.lies lie_none)))));
      formed = both (before e (expr_of y) (filled_token t.1) (lie_behind f (lie_behind g (lie_behind h (lie_then one.lies lie_none))))) (behind e (behind f (behind g (behind h (ahead j one.formed)))));
    })
stand s x d row (grammar.wrap_index {n} {x = y} {e} {f} {g} {h} {i} {j} t u v w r z) =
    let one = stand expression y (suc d) i r in
    subst (ExprStands row) (sym (wrap_index_is n y (span_of (tokens row)))) (record {
      lies = lies_at (filled_front e (f ++ (g ++ (h ++ (i ++ j)))) (filled_token t.1)) (lie_behind e (lie_behind f (lie_behind g (lie_behind h (lie_then one.lies lie_none)))));
      formed = behind e (behind f (behind g (behind h (ahead j one.formed))));
    })
stand s x d row (grammar.make_bits {w = name} {x = y} {e} {f} {g} {h} {i} {j} t u v w r z) =
    let one = stand expression y (suc d) i r in
    subst (ExprStands row) (sym (make_bits_is name y (span_of (tokens row)))) (record {
      lies = lies_at (filled_front e (f ++ (g ++ (h ++ (i ++ j)))) (filled_token t.1)) (lie_behind e (lie_behind f (lie_behind g (lie_behind h (lie_then one.lies lie_none)))));
      formed = behind e (behind f (behind g (behind h (ahead j one.formed))));
    })
stand s x d row (grammar.raw {x = y} {e} {f} {g} {h} t u r v) =
    let one = stand expression y (suc d) g r in
    subst (ExprStands row) (sym (raw_is y (span_of (tokens row)))) (record {
      lies = lies_at (filled_front e (f ++ (g ++ h)) (filled_token t.1)) (lie_behind e (lie_behind f (lie_then one.lies lie_none)));
      formed = behind e (behind f (ahead h one.formed));
    })
stand s x d row (grammar.set_field {x = y} {value} {name} {e} {f} {g} {h} {i} {j} {k} {l} t u r v w z q p) =
    let one = stand expression y (suc d) g r in
    let two = stand expression value (suc d) k q in
    let parts = lie_behind f (lie_then one.lies (lie_behind h (lie_behind i (lie_behind j (lie_then two.lies (lie_none {row = l})))))) in
    let first = before e (expr_of y) (filled_token t.1) parts in
    let second = before e (expr_of value) (filled_token t.1) (lie_behind f (lie_behind g (lie_behind h (lie_behind i (lie_behind j (lie_then two.lies (lie_none {row = l}))))))) in
    subst (ExprStands row) (sym (set_field_is y name value (span_of (tokens row)))) (record {
      lies = lies_at (filled_front e (f ++ (g ++ (h ++ (i ++ (j ++ (k ++ l)))))) (filled_token t.1)) (lie_behind e parts);
      formed = record { holds = λ o. (first.holds o, second.holds o, (behind e (behind f (ahead (h ++ (i ++ (j ++ (k ++ l)))) one.formed))).holds o, (behind e (behind f (behind g (behind h (behind i (behind j (ahead l two.formed))))))).holds o) };
    })

pub expression_stands : (x : Expr) (d : ℕ) (row : Row Token) → Spells expression x d row → ExprStands row (expr_of x)
expression_stands x d row r = stand expression x d row r

pub postfix_stands : (x : Expr) (d : ℕ) (row : Row Token) → Spells postfix x d row → ExprStands row (expr_of x)
postfix_stands x d row r = stand postfix x d row r
