-- What begins with a name, for a choice by it and a `(` behind it: a call has both, an expression only the name. In both the
-- name nests nowhere.
use Rattle.std.proofs.Common.{◌≡◌, ℕ, zero, suc, ◌≤◌, Bool, true, false, List, [], ◌∷◌, ◌++◌, inl, refl, ap, ◌∙◌, arith, Option, Some, None}
use native.Mathlib.Decide.{dec_le}
use Rattle.iv_words.specs.declared.Span.{Span}
use Rattle.iv_words.specs.declared.Name.{Name}
use Rattle.ivory_lexer.specs.declared.Token.{Token}
use Rattle.ivory_lexer.specs.declared.TokenKind.TheVariants as kind
use Rattle.ivory_lexer.specs.declared.Mark.TheVariants as mark
use Rattle.ivory_tree.specs.Syntax.{Word}
use Rattle.ivory_tree.specs.declared.Expr.{Expr}
use Rattle.ivory_tree.specs.declared.CallText.{CallText}
use Rattle.reading.specs.Row.{Entry, Row}
use Rattle.reading.specs.Language.{Terminal, Mapped}
use Rattle.reading.specs.Reader.{Outcome, Done, Unexpected, TooDeep, below, many}
use Rattle.reading.specs.Good.{Passed}
use Rattle.reading.proofs.Rows.{back_nil}
use Rattle.reading.proofs.Seconds.{NotSecond, not_second_mapped, off_pair}
use Rattle.reading.proofs.TwoTokens.{AtPair, OffPair}
use Rattle.expression_grammar.specs.Tokens.{is_mark, is_name, word_of, named, name_of}
use Rattle.expression_grammar.specs.Grammar as spelled
use Rattle.expression_grammar.specs.Reader.{expression, operand, expression_reader, operand_reader, chain_reader, postfix_reader, primary_reader}
use Rattle.expression_grammar.proofs.Tokens.{token, marked, at_name, is_marked, is_worded, some_found, name_passes, symbol_passes}
use Rattle.expression_grammar.proofs.Expressions.{good_expression}
use Rattle.expression_grammar.proofs.Unfold.{expression_below, operand_below}
use Rattle.expression_grammar.proofs.Begins.{starts_expression}
use Rattle.module_grammar.specs.Pieces.{Expression}
use Rattle.module_grammar.specs.Statements.{Rule}
use Rattle.module_grammar.specs.Statements as statements
use Rattle.module_grammar.proofs.Terminals.{a_mark}
use Rattle.module_grammar.proofs.StatementRules.{CallOf, from_call}

-- ---- how an expression is read that begins with a name

-- the tokens that are left where it is read
abbrev left_of : {T A : Type 0} → Outcome T A → Option (List T)
left_of (Done x r) = Some r
left_of (Unexpected r) = None
left_of (TooDeep r) = None

opened : (k : ℕ) → expression k ≡ expression_reader (below expression k) (operand_reader (below expression k) (below operand k))
opened k = expression_below k ∙ ap (expression_reader (below expression k)) (operand_below k)

name_alone : (k : ℕ) (w : Word) (s : Span) → left_of (expression k (token (kind.Name w) s ∷ [])) ≡ Some []
unfolding expression_reader operand_reader chain_reader postfix_reader primary_reader many
name_alone k w s = ap (λ p. left_of (p (token (kind.Name w) s ∷ []))) (opened k)

name_open : (k : ℕ) (w : Word) (s at : Span) → left_of (expression k (token (kind.Name w) s ∷ marked mark.OpenParen at ∷ [])) ≡ Some (marked mark.OpenParen at ∷ [])
unfolding expression_reader operand_reader chain_reader postfix_reader primary_reader many
name_open k w s at = ap (λ p. left_of (p (token (kind.Name w) s ∷ marked mark.OpenParen at ∷ []))) (opened k)

not_past : {T A : Type 0} (o : Outcome T A) (t : T) → left_of o ≡ Some (t ∷ []) → Passed [] o → ⊥
not_past (Done x r) t e (g, nothing) = let none : r ≡ [] = back_nil g r nothing in cc
not_past (Unexpected r) t e p = cc
not_past (TooDeep r) t e p = cc

flat : (d : ℕ) (x : Expr) (m : Entry Token) (row : Row Token) → Expression d x (m ∷ row) → is_name m.token ≡ true → m.depth ≤ d
flat d x m row r e = elim (dec_le m.depth d) [
  | yes h ↦ h
  | no h ↦
      let w = some_found (word_of m.token) e in
      let is : m.token ≡ token (kind.Name w.0) m.token.span = is_worded w.0 m.token w.1 in
      let isnt : is_mark mark.Minus m.token ≡ false = at_name (is_mark mark.Minus) false (λ w s. refl) m.token e in
      let deep : expression 0 (m.token ∷ []) ≡ TooDeep (m.token ∷ []) = (good_expression d 0 d (omega arith)).deep x [] m row [] r tt (omega arith) (λ sign. absurd cc) in
      let done : left_of (expression 0 (m.token ∷ [])) ≡ Some [] = ap (λ t. left_of (expression 0 (t ∷ []))) is ∙ name_alone 0 w.0 m.token.span in
      let none : left_of (expression 0 (m.token ∷ [])) ≡ None = ap left_of deep in
      absurd cc
]

pub not_open : (d : ℕ) → NotSecond is_name (is_mark mark.OpenParen) (Expression d)
not_open d = record { second = λ x m n row r e. at x m n row r e (is_mark mark.OpenParen n.token) refl }
  where
    at : (x : Expr) (m n : Entry Token) (row : Row Token) → Expression d x (m ∷ n ∷ row) → is_name m.token ≡ true → (b : Bool) → is_mark mark.OpenParen n.token ≡ b → b ≡ false
    at x m n row r e true o =
        let w = some_found (word_of m.token) e in
        let first : m.token ≡ token (kind.Name w.0) m.token.span = is_worded w.0 m.token w.1 in
        let second : n.token ≡ marked mark.OpenParen n.token.span = is_marked mark.OpenParen n.token o in
        let passed = (good_expression d 0 d (omega arith)).passes x (m ∷ []) n row [] r (flat d x m (n ∷ row) r e, tt) in
        let done = ap (λ t. left_of (expression 0 (t ∷ n.token ∷ []))) first ∙ ap (λ t. left_of (expression 0 (token (kind.Name w.0) m.token.span ∷ t ∷ []))) second
        ∙ name_open 0 w.0 m.token.span n.token.span in
        absurd (not_past (expression 0 (m.token ∷ n.token ∷ [])) (marked mark.OpenParen n.token.span) done passed)
    at x m n row r e false o = refl

named_chain : (n d : ℕ) (w : Word) (m : Entry Token) → Terminal d word_of w (m ∷ []) → (x : Expr) × spelled.Rule (spelled.chain n) d x (m ∷ [])
named_chain zero d w m t = (_, spelled.lone (spelled.unprefixed (spelled.stepped (spelled.variable t) spelled.none)))
named_chain (suc n) d w m t = let r = named_chain n d w m t in (_, spelled.linked r.1 spelled.none)

pub off_call : {B : Type 0} (f : Expr → B) (limit d : ℕ) → d ≤ limit → OffPair limit is_name (is_mark mark.OpenParen) (Mapped f (Expression d))
off_call {B} f limit d within =
    off_pair (not_second_mapped f (not_open d)) (λ b m row (x, r, is) e. let low = flat d x m row r e in omega (arith, low)) (λ b (x, r, is). (starts_expression d).nonempty x r)
    (λ t e.
    let w = some_found (word_of t) e in
    let m : Entry Token = record { token = t; depth = d } in
    let c = named_chain spelled.operator_levels d w.0 m (m, refl, refl, w.1) in
    (f c.0, m, [], (c.0, spelled.plain c.1, refl), refl))

call_shape : (limit d : ℕ) → d ≤ limit → (c : CallText) (row : Row Token) → CallOf d c row
    → (m : Entry Token) × (n : Entry Token) × (g : Row Token) × (row ≡ m ∷ n ∷ g) × (is_name m.token ≡ true) × (is_mark mark.OpenParen n.token ≡ true) × (m.depth ≤ limit)
call_shape limit d within c row (make, (name, e, r, e1, (m, m_is, m_at, m_name), (args, (p, (at, f, g, e2, (n, n_is, n_at, n_open), closed), args_are), make_is)), is) =
    (m, n, g, e1 ∙ ap (λ y. y ++ r) m_is ∙ ap (λ y. m ∷ y) (e2 ∙ ap (λ y. y ++ g) n_is), name_passes m.token name m_name, symbol_passes mark.OpenParen n.token at n_open, omega arith)

pub at_call : {B : Type 0} (f : CallText → B) (limit d : ℕ) → d ≤ limit → AtPair limit is_name (is_mark mark.OpenParen) (Mapped f (Rule statements.call d))
at_call f limit d within = record {
  shape = λ b row (c, r, is). call_shape limit d within c row (from_call d c row r);
  same = λ t e.
      let w = some_found (word_of t) e in
      let m : Entry Token = record { token = t; depth = d } in
      let name : Name = record { text = w.0; span = t.span } in
      let there : Terminal d name_of name (m ∷ []) = (m, refl, refl, ap (λ o. named o t.span) w.1) in
      let o = a_mark (suc d) mark.OpenParen in
      let c = a_mark (suc d) mark.CloseParen in
      (_, m, o.1 ++ c.1, (_, statements.called {args = []} there o.2 (inl (c.0, c.2, refl)), refl), refl);
}
