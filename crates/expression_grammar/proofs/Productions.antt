-- The other productions, put together from languages: they spell what the relation says.
use Rattle.std.proofs.Common.{◌≡◌, ℕ, zero, suc, false, List, [], ◌∷◌, ◌++◌, inl, inr, refl, sym, ap, ◌∙◌, subst, Some, None}
use Rattle.iv_words.specs.declared.Span.{Span}
use Rattle.ivory_lexer.specs.declared.Token.{Token}
use Rattle.ivory_lexer.specs.declared.Mark.TheVariants as mark
use Rattle.ivory_tree.specs.declared.PrefixOp.TheVariants as op
use Rattle.ivory_tree.specs.declared.Expr.{Expr}
use Rattle.ivory_tree.specs.declared.Link.{Link}
use Rattle.ivory_tree.specs.declared.Step.{Step}
use Rattle.reading.specs.Row.{Row, tokens, starts}
use Rattle.reading.specs.Language.{Language, Terminal, Mapped, Spanned, Then, After, Either, Optional, Many, Nested, Enclosed, Prefixed}
use Rattle.reading.proofs.Rows.{append_nil}
use Rattle.expression_grammar.specs.Tokens.{symbol, name_of, is_number, signs, span_of}
use Rattle.expression_grammar.specs.Operators.{operator, plain_prefix}
use Rattle.expression_grammar.specs.Trees as tree
use Rattle.expression_grammar.specs.Grammar.{Symbol, Tree, Spells, Rule, operator_levels}
use Rattle.expression_grammar.specs.Grammar as spelled
use Rattle.expression_grammar.proofs.Tokens.{symbol_passes, symbol_some}
use Rattle.expression_grammar.proofs.Filled.{filled}
use Rattle.expression_grammar.proofs.Primaries.{told, made}
use Rattle.expression_grammar.proofs.Nodes.{element_node, steps_node, negated_node, prefixed_node, links_node, arms_node}

-- ---- lists

pub to_many : (s : Symbol) (d : ℕ) (vs : List (Tree s)) (row : Row Token) → Many (Rule s d) vs row → Spells (spelled.many s) vs d row
to_many s d [] row e = subst (λ x. Spells (spelled.many s) [] d x) (sym e) spelled.none
to_many s d (v ∷ vs) row (f, g, e, r, others) = subst (λ x. Spells (spelled.many s) (v ∷ vs) d x) (sym e) (spelled.more r (to_many s d vs g others))

pub from_many : (s : Symbol) (d : ℕ) (vs : List (Tree s)) (row : Row Token) → Spells (spelled.many s) vs d row → Many (Rule s d) vs row
from_many s d [] row spelled.none = refl
from_many s d (v ∷ vs) row (spelled.more {f} {g} r others) = (f, g, refl, r, from_many s d vs g others)

-- ---- fields and elements

abbrev pub Field : ℕ → Language Token Step
Field d = After (Terminal d (symbol mark.Dot)) (Mapped tree.field (Terminal d name_of))

abbrev pub Element : ℕ → Language Token Step
Element d = Spanned element_node (Enclosed d (symbol mark.OpenBracket) (symbol mark.CloseBracket) (λ x _. x) (Rule spelled.expression (suc d)))

abbrev pub StepOf : ℕ → Language Token Step
StepOf d = Either (Field d) (Element d)

pub to_step : (d : ℕ) (v : Step) (row : Row Token) → StepOf d v row → Spells spelled.a_step v d row
to_step d v row (inl (at, f, g, e, t, (name, u, is))) = told is e (spelled.field t u)
to_step d v row (inr (x, (at, f, r, e, o, (y, g, h, e2, ry, (to, u, x_is))), is)) =
    made element_node is x_is (e ∙ ap (λ y. f ++ y) e2) (spelled.element o ry u)

pub from_step : (d : ℕ) (v : Step) (row : Row Token) → Spells spelled.a_step v d row → StepOf d v row
from_step d v row (spelled.field {at} {name} {f} {g} t u) = inl (at, f, g, refl, t, (name, u, refl))
from_step d v row (spelled.element {at} {to} {x} {f} {g} {h} o r u) = inr (x, (at, f, g ++ h, refl, o, (x, g, h, refl, r, (to, u, refl))), refl)

abbrev pub Postfix : ℕ → Language Token Expr
Postfix d = Spanned steps_node (Then (Rule spelled.primary d) (λ x. Mapped (λ steps. (x, steps)) (Many (Rule spelled.a_step d))))

pub to_postfix : (d : ℕ) (v : Expr) (row : Row Token) → Postfix d v row → Spells spelled.postfix v d row
to_postfix d v row (p, (x, f, g, e, r, (steps, others, p_is)), is) =
    made steps_node is p_is e (spelled.stepped r (to_many spelled.a_step d steps g others))

pub from_postfix : (d : ℕ) (v : Expr) (row : Row Token) → Spells spelled.postfix v d row → Postfix d v row
from_postfix d v row (spelled.stepped {x} {steps} {f} {g} r others) = ((x, steps), (x, f, g, refl, r, (steps, from_many spelled.a_step d steps g others, refl)), refl)

-- ---- prefix operators

abbrev pub Negated : ℕ → Language Token Expr
Negated d = Prefixed signs d negated_node (Rule spelled.operand (suc d))

abbrev pub PlainPrefixed : ℕ → Language Token Expr
PlainPrefixed d = Spanned prefixed_node (Nested d plain_prefix (λ o. Mapped (λ x. (o, x)) (Rule spelled.operand (suc d))))

-- what may stand where a `-` may
abbrev pub NotNegated : ℕ → Language Token Expr
NotNegated d = Either (PlainPrefixed d) (Rule spelled.postfix d)

abbrev pub Operand : ℕ → Language Token Expr
Operand d = Either (Negated d) (NotNegated d)

pub to_operand : (d : ℕ) (v : Expr) (row : Row Token) → Operand d v row → Spells spelled.operand v d row
to_operand d v row (inl (x, m, n, g, e, at, is, isnt, r, v_is)) =
    made negated_node v_is refl e (spelled.negated (m, refl, at, symbol_some mark.Minus m.token is) r isnt)
to_operand d v row (inr (inl (p, (o, f, g, e, t, (x, r, p_is)), is))) = made prefixed_node is p_is e (spelled.prefixed t r)
to_operand d v row (inr (inr r)) = spelled.unprefixed r

from_negated : (d : ℕ) (at : Span) (x : Expr) (f g : Row Token) → Terminal (suc d) (symbol mark.Minus) at f → Spells spelled.operand x (suc d) g → starts is_number (tokens g) ≡ false
    → Negated d (tree.prefixed_by op.Neg x (span_of (tokens (f ++ g)))) (f ++ g)
from_negated d at x f [] t r isnt = absurd (filled spelled.operand x (suc d) [] r refl)
from_negated d at x f (n ∷ g) (m, e, depth, sel) r isnt = (x, m, n, g, ap (λ y. y ++ n ∷ g) e, depth, symbol_passes mark.Minus m.token at sel, isnt, r, refl)

pub from_operand : (d : ℕ) (v : Expr) (row : Row Token) → Spells spelled.operand v d row → Operand d v row
from_operand d v row (spelled.unprefixed r) = inr (inr r)
from_operand d v row (spelled.negated {at} {x} {f} {g} t r isnt) = inl (from_negated d at x f g t r isnt)
from_operand d v row (spelled.prefixed {o} {x} {f} {g} t r) = inr (inl ((o, x), (o, f, g, refl, t, (x, r, refl)), refl))

-- ---- chains

pub to_lone : (d : ℕ) (v : Expr) (row : Row Token) → Spells spelled.operand v d row → Spells (spelled.chain zero) v d row
to_lone d v row r = spelled.lone r

pub from_lone : (d : ℕ) (v : Expr) (row : Row Token) → Spells (spelled.chain zero) v d row → Spells spelled.operand v d row
from_lone d v row (spelled.lone r) = r

abbrev pub LinkOf : ℕ → ℕ → Language Token Link
LinkOf n d = Then (Terminal d (operator n)) (λ o. Mapped (tree.link o) (Rule (spelled.chain n) d))

pub to_link : (n d : ℕ) (v : Link) (row : Row Token) → LinkOf n d v row → Spells (spelled.a_link n) v d row
to_link n d v row (o, f, g, e, t, (x, r, is)) = told is e (spelled.link t r)

pub from_link : (n d : ℕ) (v : Link) (row : Row Token) → Spells (spelled.a_link n) v d row → LinkOf n d v row
from_link n d v row (spelled.link {o} {x} {f} {g} t r) = (o, f, g, refl, t, (x, r, refl))

abbrev pub Chain : ℕ → ℕ → Language Token Expr
Chain n d = Spanned links_node (Then (Rule (spelled.chain n) d) (λ x. Mapped (λ links. (x, links)) (Many (Rule (spelled.a_link n) d))))

pub to_chain : (n d : ℕ) (v : Expr) (row : Row Token) → Chain n d v row → Spells (spelled.chain (suc n)) v d row
to_chain n d v row (p, (x, f, g, e, r, (links, others, p_is)), is) =
    made links_node is p_is e (spelled.linked r (to_many (spelled.a_link n) d links g others))

pub from_chain : (n d : ℕ) (v : Expr) (row : Row Token) → Spells (spelled.chain (suc n)) v d row → Chain n d v row
from_chain n d v row (spelled.linked {x} {links} {f} {g} r others) = ((x, links), (x, f, g, refl, r, (links, from_many (spelled.a_link n) d links g others, refl)), refl)

-- ---- expressions

abbrev pub ArmsAfter : ℕ → Span → Language Token (Expr × Expr)
ArmsAfter d _ = Then (Rule spelled.expression d) (λ a. After (Terminal d (symbol mark.Colon)) (Mapped (λ b. (a, b)) (Rule spelled.expression d)))

abbrev pub Arms : ℕ → Language Token (Expr × Expr)
Arms d = Nested d (symbol mark.Question) (ArmsAfter (suc d))

abbrev pub Expression : ℕ → Language Token Expr
Expression d = Spanned arms_node (Then (Rule (spelled.chain operator_levels) d) (λ x. Mapped (λ arms. (x, arms)) (Optional (Arms d))))

pub to_expression : (d : ℕ) (v : Expr) (row : Row Token) → Expression d v row → Spells spelled.expression v d row
to_expression d v row (p, (x, f, g, e, r, (None, none, p_is)), is) =
    told (is ∙ ap (λ q. tree.with_arms q.0 q.1 (span_of (tokens row))) p_is) (e ∙ ap (λ y. f ++ y) none ∙ append_nil f) (spelled.plain r)
to_expression d v row (p, (x, f, g, e, r, (Some arms, (at, k, l, e2, q, (a, h, m, e3, ra, (to, i, j, e4, c, (b, rb, arms_are)))), p_is)), is) =
    made arms_node is (p_is ∙ ap (λ z. (x, Some z)) arms_are)
    (e ∙ ap (λ y. f ++ y) (e2 ∙ ap (λ y. k ++ y) (e3 ∙ ap (λ y. h ++ y) e4))) (spelled.conditional r q ra c rb)

pub from_expression : (d : ℕ) (v : Expr) (row : Row Token) → Spells spelled.expression v d row → Expression d v row
from_expression d v row (spelled.plain {x} {f} r) = ((x, None), (x, f, [], sym (append_nil f), r, (None, refl, refl)), refl)
from_expression d v row (spelled.conditional {at} {to} {x} {a} {b} {f} {g} {h} {i} {j} r q ra c rb) =
    ((x, Some (a, b)), (x, f, g ++ (h ++ (i ++ j)), refl, r, (Some (a, b), (at, g, h ++ (i ++ j), refl, q, (a, h, i ++ j, refl, ra, (to, i, j, refl, c, (b, rb, refl)))), refl)), refl)
