-- What the tokens of an expression tell: whatever is open around it stays so, and behind it nothing more is open.
use Rattle.std.proofs.Common.{◌≡◌, ℕ, suc, true, false, not, List, [], ◌∷◌, ◌++◌, refl, ap, ◌∙◌, subst, append_assoc, length}
use Rattle.iv_words.specs.declared.Span.{Span}
use Rattle.ivory_lexer.specs.declared.Token.{Token}
use Rattle.ivory_lexer.specs.declared.TokenKind.TheVariants as kind
use Rattle.ivory_lexer.specs.declared.Mark.{Mark}
use Rattle.ivory_lexer.specs.declared.Mark.TheVariants as mark
use Rattle.ivory_lexer.specs.declared.Key.TheVariants as key
use Rattle.ivory_tree.specs.declared.BinOp.{BinOp}
use Rattle.ivory_tree.specs.declared.Expr.{Expr}
use Rattle.reading.specs.Row.{Row, tokens, starts}
use Rattle.reading.specs.Language.{Terminal}
use Rattle.expression_grammar.specs.Tokens.{symbol, number_of, is_number}
use Rattle.expression_grammar.specs.Operators.{operator}
use Rattle.expression_grammar.specs.Grammar as grammar
use Rattle.expression_grammar.specs.Grammar.{Symbol, expression, chain, a_link, operand, postfix, a_step, primary, many, Tree, Spells}
use Rattle.expression_grammar.proofs.Begins.{starts_operand}
use Rattle.expression_grammar.proofs.Tokens.{at_mark, symbol_passes, number_passes}
use Rattle.token_nesting.specs.Open.{Open, Bracket, Operator, Choice, Arm, Operand, Value, Other}
use Rattle.token_nesting.specs.Nesting.{nestings_from, operand_goes_on, ends_expression}
use Rattle.token_nesting.proofs.Scan.{Scan, anything, and, before_that, stricter, onward, nothing, first_passes, first_of_two}
use Rattle.token_nesting.proofs.Ends.{holds_operand, holds_expression, of_operand, operand_stays, expression_stays, operand_stops, expression_stops, operand_ends, expression_ends_operand}
use Rattle.token_nesting.proofs.Tokens.{scan_mark, scan_key, scan_word, scan_name, scan_number, scan_truth, scan_int, scan_prefix, scan_minus, scan_sign, no_number, scan_operator, operator_ends, valued_expression}

-- a mark that ends an expression, alone and with more behind it

pub stops_alone : {d : ℕ} {x : Span} (m : Mark) {f : Row Token} → Terminal d (symbol m) x f → ends_expression (kind.Mark m) ≡ true → (rest : List Token) → expression_stops (tokens f ++ rest) ≡ true
stops_alone {x} m {f} t is rest = first_passes ends_expression (symbol m) x f t (λ u e. at_mark (λ y. ends_expression y.kind) true m (λ s. is) u (symbol_passes m u x e)) rest

pub stops_at : {d : ℕ} {x : Span} (m : Mark) {f : Row Token} → Terminal d (symbol m) x f → ends_expression (kind.Mark m) ≡ true → (g : Row Token) (rest : List Token) → expression_stops (tokens (f ++ g) ++ rest) ≡ true
stops_at {x} m {f} t is g rest = first_of_two ends_expression (symbol m) x f t (λ u e. at_mark (λ y. ends_expression y.kind) true m (λ s. is) u (symbol_passes m u x e)) g rest

question_ends : {d : ℕ} {x : Span} {f : Row Token} → Terminal d (symbol mark.Question) x f → (g : Row Token) (rest : List Token) → operand_stops (tokens (f ++ g) ++ rest) ≡ true
question_ends {x} {f} t g rest =
    first_of_two (λ k. not (operand_goes_on k)) (symbol mark.Question) x f t (λ u e. at_mark (λ y. not (operand_goes_on y.kind)) true mark.Question (λ s. refl) u (symbol_passes mark.Question u x e)) g rest

operator_stops : (n : ℕ) {d : ℕ} {o : BinOp × Span} {f : Row Token} → Terminal d (operator n) o f → (g : Row Token) (rest : List Token) → operand_stops (tokens (f ++ g) ++ rest) ≡ true
operator_stops n {o} {f} t g rest = first_of_two (λ k. not (operand_goes_on k)) (operator n) o f t (operator_ends n o) g rest

number_follows : {d n : ℕ} {f : Row Token} → Terminal d number_of n f → (rest : List Token) → starts is_number (tokens f ++ rest) ≡ true
number_follows {n} {f} (m, is, at, found) rest = ap (λ y. starts is_number (tokens y ++ rest)) is ∙ number_passes m.token n found

-- no number follows a `-` whose operand begins with none
operand_follows : (g : Row Token) → (g ≡ [] → ⊥) → starts is_number (tokens g) ≡ false → (rest : List Token) → no_number (tokens g ++ rest) ≡ true
operand_follows [] filled isnt rest = absurd (filled refl)
operand_follows (m ∷ g) filled isnt rest = ap not isnt

-- ---- brackets

-- an expression up to its `)`
pub to_paren : {d : ℕ} {x : Span} {os : List Open} {f g : Row Token} → length os ≡ d → Scan expression_stops Other (Bracket ∷ os) f Operand (Bracket ∷ os) → Terminal (suc d) (symbol mark.CloseParen) x g
    → Scan anything Other (Bracket ∷ os) (f ++ g) Operand os
to_paren at one u = before_that one (scan_mark mark.CloseParen (ap suc at) u (λ s rest. refl)) (λ rest e. stops_alone mark.CloseParen u refl rest)

-- where it stands behind a comma
to_paren_value : {d : ℕ} {x : Span} {y : Expr} {os : List Open} {f g : Row Token} → length os ≡ d → Spells expression y (suc d) f
    → Scan expression_stops Other (Bracket ∷ os) f Operand (Bracket ∷ os) → Terminal (suc d) (symbol mark.CloseParen) x g → Scan anything Value (Bracket ∷ os) (f ++ g) Operand os
to_paren_value at r one u = before_that (valued_expression r one) (scan_mark mark.CloseParen (ap suc at) u (λ s rest. refl)) (λ rest e. stops_alone mark.CloseParen u refl rest)

-- a link ends the operand before it
link_stops : (n : ℕ) {d : ℕ} {o : BinOp × Span} {f : Row Token} → Terminal d (operator n) o f → (g h : Row Token) (rest : List Token) → operand_stops (tokens ((f ++ g) ++ h) ++ rest) ≡ true
link_stops n {o} {f} t g h rest = ap (λ y. operand_stops (tokens y ++ rest)) (append_assoc f g h) ∙ operator_stops n t (g ++ h) rest

-- what is told of the row of each symbol, with this open around it
abbrev Told : (s : Symbol) → List Open → Row Token → Type 0
Told expression os row = holds_expression os ≡ true → Scan expression_stops Other os row Operand os
Told (chain n) os row = holds_expression os ≡ true → Scan operand_stops Other os row Operand os
Told (a_link n) os row = holds_expression os ≡ true → Scan operand_stops Operand os row Operand os × ((g : Row Token) (rest : List Token) → operand_stops (tokens (row ++ g) ++ rest) ≡ true)
Told operand os row = holds_operand os ≡ true → Scan operand_stops Other os row Operand os
Told postfix os row = holds_operand os ≡ true → Scan anything Other os row Operand os
Told a_step os row = holds_operand os ≡ true → Scan anything Operand os row Operand os
Told primary os row = holds_operand os ≡ true → Scan anything Other os row Operand os
Told (many (a_link n)) os row = holds_expression os ≡ true → Scan operand_stops Operand os row Operand os × ((rest : List Token) → operand_stops rest ≡ true → operand_stops (tokens row ++ rest) ≡ true)
Told (many a_step) os row = holds_operand os ≡ true → Scan anything Operand os row Operand os
Told (many s) os row = Unit {0}

told : (s : Symbol) (x : Tree s) (d : ℕ) (row : Row Token) → Spells s x d row → (os : List Open) → length os ≡ d → Told s os row
told expression x d row (grammar.plain r) os at = λ h. stricter (told (chain 10) x d row r os at h) expression_ends_operand
told expression x d row (grammar.conditional {x = y} {a} {b} {f} {g} {h = i} {i = j} {j = k} r q ra c rb) os at = λ h.
    before_that (told (chain 10) y d f r os at h)
    (and (scan_mark mark.Question (ap suc at) q (λ s rest. ap (λ x. length (Choice ∷ x) ∷ nestings_from Other (Choice ∷ x) rest) (expression_stays (kind.Mark mark.Question) refl os h)))
    (before_that (told expression a (suc d) i ra (Choice ∷ os) (ap suc at) refl)
    (and (scan_mark mark.Colon (ap suc at) c (λ s rest. refl))
    (onward (told expression b (suc d) k rb (Arm ∷ os) (ap suc at) refl) (λ rest e. operand_ends Arm os rest e)))
    (λ rest e. stops_at mark.Colon c refl k rest)))
    (λ rest e. question_ends q _ rest)
told (chain n) x d row (grammar.lone r) os at = λ h. told operand x d row r os at (of_operand os h)
told (chain n) x d row (grammar.linked {n = k} {x = y} {links} {f} {g} r rs) os at = λ h.
    let more = told (many (a_link k)) links d g rs os at h in
    before_that (told (chain k) y d f r os at h) more.0 more.1
told (a_link n) x d row (grammar.link {x = y} {g} t r) os at = λ h. (and (scan_operator n at t h) (told (chain n) y d g r os at h), λ k rest. link_stops n t g k rest)
told operand x d row (grammar.unprefixed r) os at = λ h. stricter (told postfix x d row r os at h) (λ rest e. refl)
told operand x d row (grammar.negated {x = y} {g} t r isnt) os at = λ h.
    before_that (scan_minus (ap suc at) t) (onward (told operand y (suc d) g r (Operator ∷ os) (ap suc at) refl) (λ rest e. operand_ends Operator os rest e))
    (λ rest e. operand_follows g (λ none. (starts_operand (suc d)).nonempty y (subst (Spells operand y (suc d)) none r)) isnt rest)
told operand x d row (grammar.prefixed {x = y} {g} t r) os at = λ h. and (scan_prefix (ap suc at) t) (onward (told operand y (suc d) g r (Operator ∷ os) (ap suc at) refl) (λ rest e. operand_ends Operator os rest e))
told postfix x d row (grammar.stepped {x = y} {steps} {f} {g} r rs) os at = λ h. and (told primary y d f r os at h) (told (many a_step) steps d g rs os at h)
told a_step x d row (grammar.field t u) os at = λ h.
    and (scan_mark mark.Dot at t (λ s rest. ap (λ x. length x ∷ nestings_from Other x rest) (operand_stays (kind.Mark mark.Dot) refl refl os h))) (scan_name at u (λ w s rest. refl))
told a_step x d row (grammar.element {x = y} {f} {g} {h = i} t r u) os at = λ h.
    and (scan_mark mark.OpenBracket (ap suc at) t (λ s rest. ap (λ x. length (Bracket ∷ x) ∷ nestings_from Other (Bracket ∷ x) rest) (operand_stays (kind.Mark mark.OpenBracket) refl refl os h)))
    (before_that (told expression y (suc d) g r (Bracket ∷ os) (ap suc at) refl) (scan_mark mark.CloseBracket (ap suc at) u (λ s rest. refl)) (λ rest e. stops_alone mark.CloseBracket u refl rest))
told primary x d row (grammar.number t) os at = λ h. scan_number at t (λ n s rest. refl)
told primary x d row (grammar.negative t u) os at = λ h. before_that (scan_sign at t) (scan_number at u (λ n s rest. refl)) (λ rest e. number_follows u rest)
told primary x d row (grammar.truth t) os at = λ h. scan_truth at t
told primary x d row (grammar.outcome t) os at = λ h. scan_key key.KwResult at t (λ s rest. refl)
told primary x d row (grammar.variable t) os at = λ h. scan_word at t (λ w s rest. refl)
told primary x d row (grammar.parentheses {x = y} {g} t r u) os at = λ h.
    and (scan_mark mark.OpenParen (ap suc at) t (λ s rest. refl)) (to_paren at (told expression y (suc d) g r (Bracket ∷ os) (ap suc at) refl) u)
told primary x d row (grammar.cast {x = y} {g} t u r v) os at = λ h.
    and (scan_int at t)
    (and (scan_mark mark.OpenParen (ap suc at) u (λ s rest. ap (λ x. length (Bracket ∷ x) ∷ nestings_from Other (Bracket ∷ x) rest) (operand_stays (kind.Mark mark.OpenParen) refl refl os h)))
    (to_paren at (told expression y (suc d) g r (Bracket ∷ os) (ap suc at) refl) v))
told primary x d row (grammar.to_index {x = y} {i = g} t u v w r z) os at = λ h.
    and (scan_key key.KwToix at t (λ s rest. refl))
    (and (scan_mark mark.OpenParen (ap suc at) u (λ s rest. refl))
    (and (scan_number (ap suc at) v (λ n s rest. refl))
    (and (scan_mark mark.Comma (ap suc at) w (λ s rest. refl))
    (to_paren_value at r (told expression y (suc d) g r (Bracket ∷ os) (ap suc at) refl) z))))
told primary x d row (grammar.wrap_index {x = y} {i = g} t u v w r z) os at = λ h.
    and (scan_key key.KwWrapix at t (λ s rest. refl))
    (and (scan_mark mark.OpenParen (ap suc at) u (λ s rest. refl))
    (and (scan_number (ap suc at) v (λ n s rest. refl))
    (and (scan_mark mark.Comma (ap suc at) w (λ s rest. refl))
    (to_paren_value at r (told expression y (suc d) g r (Bracket ∷ os) (ap suc at) refl) z))))
told primary x d row (grammar.make_bits {x = y} {i = g} t u v w r z) os at = λ h.
    and (scan_key key.KwBits at t (λ s rest. refl))
    (and (scan_mark mark.OpenParen (ap suc at) u (λ s rest. refl))
    (and (scan_word (ap suc at) v (λ n s rest. refl))
    (and (scan_mark mark.Comma (ap suc at) w (λ s rest. refl))
    (to_paren_value at r (told expression y (suc d) g r (Bracket ∷ os) (ap suc at) refl) z))))
told primary x d row (grammar.raw {x = y} {g} t u r v) os at = λ h.
    and (scan_key key.KwRaw at t (λ s rest. refl))
    (and (scan_mark mark.OpenParen (ap suc at) u (λ s rest. refl)) (to_paren at (told expression y (suc d) g r (Bracket ∷ os) (ap suc at) refl) v))
told primary x d row (grammar.set_field {x = y} {value} {g} {k} t u r v w z q p) os at = λ h.
    and (scan_key key.KwSet at t (λ s rest. refl))
    (and (scan_mark mark.OpenParen (ap suc at) u (λ s rest. refl))
    (before_that (told expression y (suc d) g r (Bracket ∷ os) (ap suc at) refl)
    (and (scan_mark mark.Comma (ap suc at) v (λ s rest. refl))
    (and (scan_name (ap suc at) w (λ n s rest. refl))
    (and (scan_mark mark.Comma (ap suc at) z (λ s rest. refl))
    (to_paren_value at q (told expression value (suc d) k q (Bracket ∷ os) (ap suc at) refl) p))))
    (λ rest e. stops_at mark.Comma v refl _ rest)))
told (many (a_link n)) x d row grammar.none os at = λ h. (nothing, λ rest e. e)
told (many (a_link n)) x d row (grammar.more {x = y} {xs} {f} {g} r rs) os at = λ h.
    let one = told (a_link n) y d f r os at h in
    let others = told (many (a_link n)) xs d g rs os at h in
    (before_that one.0 others.0 others.1, λ rest e. one.1 g rest)
told (many a_step) x d row grammar.none os at = λ h. nothing
told (many a_step) x d row (grammar.more {x = y} {xs} {f} {g} r rs) os at = λ h. and (told a_step y d f r os at h) (told (many a_step) xs d g rs os at h)
told (many s) x d row r os at = tt

pub scan_expression : {d : ℕ} {x : Expr} {f : Row Token} {os : List Open} → length os ≡ d → holds_expression os ≡ true → Spells expression x d f → Scan expression_stops Other os f Operand os
scan_expression {d} {x} {f} {os} at h r = told expression x d f r os at h

pub scan_value : {d : ℕ} {x : Expr} {f : Row Token} {os : List Open} → length os ≡ d → holds_expression os ≡ true → Spells expression x d f → Scan expression_stops Value os f Operand os
scan_value at h r = valued_expression r (scan_expression at h r)

pub scan_postfix : {d : ℕ} {x : Expr} {f : Row Token} {os : List Open} → length os ≡ d → holds_operand os ≡ true → Spells postfix x d f → Scan anything Other os f Operand os
scan_postfix {d} {x} {f} {os} at h r = told postfix x d f r os at h
