-- What one token tells, by what its rule says of it.
use Rattle.std.proofs.Common.{◌≡◌, ℕ, Bool, true, false, not, ◌&&◌, List, [], ◌∷◌, ◌++◌, refl, ap, ◌∙◌, length, Option, Some, None, is_some}
use Rattle.iv_words.specs.declared.Span.{Span}
use Rattle.iv_words.specs.declared.Name.{Name}
use Rattle.iv_words.specs.declared.IntKind.{IntKind}
use Rattle.ivory_lexer.specs.declared.Token.{Token}
use Rattle.ivory_lexer.specs.declared.TokenKind.{TokenKind}
use Rattle.ivory_lexer.specs.declared.TokenKind.TheVariants as kind
use Rattle.ivory_lexer.specs.declared.Mark.{Mark}
use Rattle.ivory_lexer.specs.declared.Mark.TheVariants as mark
use Rattle.ivory_lexer.specs.declared.Key.{Key}
use Rattle.ivory_lexer.specs.declared.Key.TheVariants as key
use Rattle.ivory_tree.specs.Syntax.{Word}
use Rattle.ivory_tree.specs.declared.BinOp.{BinOp}
use Rattle.ivory_tree.specs.declared.PrefixOp.{PrefixOp}
use Rattle.ivory_tree.specs.declared.Expr.{Expr}
use Rattle.reading.specs.Row.{Row, tokens, starts}
use Rattle.reading.specs.Language.{Language, Terminal}
use Rattle.reading.proofs.Starts.{StartsWith}
use Rattle.expression_grammar.specs.Tokens.{is_mark_kind, symbol, keyword, name_of, word_of, number_of, truth_of, truth_of_kind, int_of, int_of_kind, is_number}
use Rattle.expression_grammar.specs.Operators.{binary_of, with_place, of_level, operator, plain_prefix, plain_prefix_of}
use Rattle.expression_grammar.specs.Grammar as grammar
use Rattle.expression_grammar.specs.Grammar.{Rule, Spells}
use Rattle.expression_grammar.specs.Edges.{begins_postfix, begins_expression}
use Rattle.expression_grammar.proofs.Begins.{starts_postfix, starts_expression}
use Rattle.expression_grammar.proofs.Tokens.{not_mark, token, marked, keyed, at_mark, at_key, at_name, at_number, symbol_passes, keyword_passes, number_passes, word_passes, name_passes}
use Rattle.token_nesting.specs.Open.{Open, Operator, Before, Operand, Value, Other}
use Rattle.token_nesting.specs.Nesting.{nestings_from, operand_begins, with_operator, operand_goes_on}
use Rattle.token_nesting.proofs.Scan.{Scan, anything, scan_token}
use Rattle.token_nesting.proofs.Ends.{holds_expression, expression_stays}

module _ {n d : ℕ} {a c : Before} {os now : List Open} {f : Row Token} where
  pub scan_mark : {x : Span} (m : Mark) → n ≡ d → Terminal d (symbol m) x f → ((s : Span) (rest : List Token) → nestings_from a os (marked m s ∷ rest) ≡ n ∷ nestings_from c now rest) → Scan anything a os f c now
  scan_mark {x} m at t computes =
      scan_token (symbol m) x f at t (λ u rest e p. at_mark (λ y. nestings_from a os (y ∷ rest)) (n ∷ nestings_from c now rest) m (λ s. computes s rest) u (symbol_passes m u x e))

  pub scan_key : {x : Span} (k : Key) → n ≡ d → Terminal d (keyword k) x f → ((s : Span) (rest : List Token) → nestings_from a os (keyed k s ∷ rest) ≡ n ∷ nestings_from c now rest) → Scan anything a os f c now
  scan_key {x} k at t computes =
      scan_token (keyword k) x f at t (λ u rest e p. at_key (λ y. nestings_from a os (y ∷ rest)) (n ∷ nestings_from c now rest) k (λ s. computes s rest) u (keyword_passes k u x e))

  pub scan_word : {x : Word} → n ≡ d → Terminal d word_of x f → ((w : Word) (s : Span) (rest : List Token) → nestings_from a os (token (kind.Name w) s ∷ rest) ≡ n ∷ nestings_from c now rest) → Scan anything a os f c now
  scan_word {x} at t computes =
      scan_token word_of x f at t (λ u rest e p. at_name (λ y. nestings_from a os (y ∷ rest)) (n ∷ nestings_from c now rest) (λ w s. computes w s rest) u (word_passes u x e))

  pub scan_name : {x : Name} → n ≡ d → Terminal d name_of x f → ((w : Word) (s : Span) (rest : List Token) → nestings_from a os (token (kind.Name w) s ∷ rest) ≡ n ∷ nestings_from c now rest) → Scan anything a os f c now
  scan_name {x} at t computes =
      scan_token name_of x f at t (λ u rest e p. at_name (λ y. nestings_from a os (y ∷ rest)) (n ∷ nestings_from c now rest) (λ w s. computes w s rest) u (name_passes u x e))

  pub scan_number : {x : ℕ} → n ≡ d → Terminal d number_of x f → ((v : ℕ) (s : Span) (rest : List Token) → nestings_from a os (token (kind.Number v) s ∷ rest) ≡ n ∷ nestings_from c now rest) → Scan anything a os f c now
  scan_number {x} at t computes =
      scan_token number_of x f at t (λ u rest e p. at_number (λ y. nestings_from a os (y ∷ rest)) (n ∷ nestings_from c now rest) (λ w s. computes w s rest) u (number_passes u x e))

-- ---- of several kinds

truth_told : (k : TokenKind) (b : Bool) → truth_of_kind k ≡ Some b → (s : Span) (os : List Open) (rest : List Token) → nestings_from Other os (token k s ∷ rest) ≡ length os ∷ nestings_from Operand os rest
truth_told (kind.Key key.KwTrue) b e s os rest = refl
truth_told (kind.Key key.KwFalse) b e s os rest = refl
truth_told _ b e s os rest = cc

pub scan_truth : {d : ℕ} {b : Bool} {os : List Open} {f : Row Token} → length os ≡ d → Terminal d truth_of b f → Scan anything Other os f Operand os
scan_truth {b} {os} {f} at t = scan_token truth_of b f at t (λ u rest e p. truth_told u.kind b e u.span os rest)

int_told : (k : TokenKind) (i : IntKind) → int_of_kind k ≡ Some i → (s : Span) (os : List Open) (rest : List Token) → nestings_from Other os (token k s ∷ rest) ≡ length os ∷ nestings_from Operand os rest
int_told (kind.Key key.KwUint8t) i e s os rest = refl
int_told (kind.Key key.KwUint16t) i e s os rest = refl
int_told (kind.Key key.KwUint32t) i e s os rest = refl
int_told (kind.Key key.KwUint64t) i e s os rest = refl
int_told (kind.Key key.KwInt8t) i e s os rest = refl
int_told (kind.Key key.KwInt16t) i e s os rest = refl
int_told (kind.Key key.KwInt32t) i e s os rest = refl
int_told (kind.Key key.KwInt64t) i e s os rest = refl
int_told _ i e s os rest = cc

pub scan_int : {d : ℕ} {i : IntKind} {os : List Open} {f : Row Token} → length os ≡ d → Terminal d int_of i f → Scan anything Other os f Operand os
scan_int {i} {os} {f} at t = scan_token int_of i f at t (λ u rest e p. int_told u.kind i e u.span os rest)

-- ---- operators

prefix_told : (k : TokenKind) (o : PrefixOp) → plain_prefix_of k ≡ Some o → (s : Span) (os : List Open) (rest : List Token)
    → nestings_from Other os (token k s ∷ rest) ≡ length (Operator ∷ os) ∷ nestings_from Other (Operator ∷ os) rest
prefix_told (kind.Mark mark.Tilde) o e s os rest = refl
prefix_told (kind.Mark mark.Bang) o e s os rest = refl
prefix_told (kind.Mark mark.Star) o e s os rest = refl
prefix_told _ o e s os rest = cc

pub scan_prefix : {d : ℕ} {o : PrefixOp} {os : List Open} {f : Row Token} → length (Operator ∷ os) ≡ d → Terminal d plain_prefix o f → Scan anything Other os f Other (Operator ∷ os)
scan_prefix {o} {os} {f} at t = scan_token plain_prefix o f at t (λ u rest e p. prefix_told u.kind o e u.span os rest)

-- a `-` that no number follows
abbrev pub no_number : List Token → Bool
no_number ts = not (starts is_number ts)

minus_told : (b : Bool) (s : Span) (os : List Open) (rest : List Token) → not b ≡ true
    → length (with_operator (operand_begins Other && not b) os) ∷ nestings_from Other (with_operator (operand_begins Other && not b) os) rest ≡ length (Operator ∷ os) ∷ nestings_from Other (Operator ∷ os) rest
minus_told true s os rest e = cc
minus_told false s os rest e = refl

sign_told : (b : Bool) (s : Span) (os : List Open) (rest : List Token) → b ≡ true
    → length (with_operator (operand_begins Other && not b) os) ∷ nestings_from Other (with_operator (operand_begins Other && not b) os) rest ≡ length os ∷ nestings_from Other os rest
sign_told true s os rest e = refl
sign_told false s os rest e = cc

pub scan_minus : {d : ℕ} {x : Span} {os : List Open} {f : Row Token} → length (Operator ∷ os) ≡ d → Terminal d (symbol mark.Minus) x f → Scan no_number Other os f Other (Operator ∷ os)
scan_minus {x} {os} {f} at t =
    scan_token (symbol mark.Minus) x f at t (λ u rest e p. at_mark (λ y. nestings_from Other os (y ∷ rest)) (length (Operator ∷ os) ∷ nestings_from Other (Operator ∷ os) rest) mark.Minus
    (λ s. minus_told (starts is_number rest) s os rest p) u (symbol_passes mark.Minus u x e))

pub scan_sign : {d : ℕ} {x : Span} {os : List Open} {f : Row Token} → length os ≡ d → Terminal d (symbol mark.Minus) x f → Scan (starts is_number) Other os f Other os
scan_sign {x} {os} {f} at t =
    scan_token (symbol mark.Minus) x f at t (λ u rest e p. at_mark (λ y. nestings_from Other os (y ∷ rest)) (length os ∷ nestings_from Other os rest) mark.Minus
    (λ s. sign_told (starts is_number rest) s os rest p) u (symbol_passes mark.Minus u x e))

binary_told : (k : TokenKind) → is_some (binary_of k) ≡ true → (s : Span) (os : List Open) → holds_expression os ≡ true → (rest : List Token)
    → nestings_from Operand os (token k s ∷ rest) ≡ length os ∷ nestings_from Other os rest
binary_told (kind.Mark mark.PipePipe) e s os h rest = ap (λ x. length x ∷ nestings_from Other x rest) (expression_stays (kind.Mark mark.PipePipe) refl os h)
binary_told (kind.Mark mark.AmpAmp) e s os h rest = ap (λ x. length x ∷ nestings_from Other x rest) (expression_stays (kind.Mark mark.AmpAmp) refl os h)
binary_told (kind.Mark mark.Pipe) e s os h rest = ap (λ x. length x ∷ nestings_from Other x rest) (expression_stays (kind.Mark mark.Pipe) refl os h)
binary_told (kind.Mark mark.Caret) e s os h rest = ap (λ x. length x ∷ nestings_from Other x rest) (expression_stays (kind.Mark mark.Caret) refl os h)
binary_told (kind.Mark mark.Amp) e s os h rest = ap (λ x. length x ∷ nestings_from Other x rest) (expression_stays (kind.Mark mark.Amp) refl os h)
binary_told (kind.Mark mark.EqualEqual) e s os h rest = ap (λ x. length x ∷ nestings_from Other x rest) (expression_stays (kind.Mark mark.EqualEqual) refl os h)
binary_told (kind.Mark mark.BangEqual) e s os h rest = ap (λ x. length x ∷ nestings_from Other x rest) (expression_stays (kind.Mark mark.BangEqual) refl os h)
binary_told (kind.Mark mark.Less) e s os h rest = ap (λ x. length x ∷ nestings_from Other x rest) (expression_stays (kind.Mark mark.Less) refl os h)
binary_told (kind.Mark mark.LessEqual) e s os h rest = ap (λ x. length x ∷ nestings_from Other x rest) (expression_stays (kind.Mark mark.LessEqual) refl os h)
binary_told (kind.Mark mark.Greater) e s os h rest = ap (λ x. length x ∷ nestings_from Other x rest) (expression_stays (kind.Mark mark.Greater) refl os h)
binary_told (kind.Mark mark.GreaterEqual) e s os h rest = ap (λ x. length x ∷ nestings_from Other x rest) (expression_stays (kind.Mark mark.GreaterEqual) refl os h)
binary_told (kind.Mark mark.Shl) e s os h rest = ap (λ x. length x ∷ nestings_from Other x rest) (expression_stays (kind.Mark mark.Shl) refl os h)
binary_told (kind.Mark mark.Shr) e s os h rest = ap (λ x. length x ∷ nestings_from Other x rest) (expression_stays (kind.Mark mark.Shr) refl os h)
binary_told (kind.Mark mark.Plus) e s os h rest = ap (λ x. length x ∷ nestings_from Other x rest) (expression_stays (kind.Mark mark.Plus) refl os h)
binary_told (kind.Mark mark.Minus) e s os h rest = ap (λ x. length x ∷ nestings_from Other x rest) (expression_stays (kind.Mark mark.Minus) refl os h)
binary_told (kind.Mark mark.PlusPercent) e s os h rest = ap (λ x. length x ∷ nestings_from Other x rest) (expression_stays (kind.Mark mark.PlusPercent) refl os h)
binary_told (kind.Mark mark.MinusPercent) e s os h rest = ap (λ x. length x ∷ nestings_from Other x rest) (expression_stays (kind.Mark mark.MinusPercent) refl os h)
binary_told (kind.Mark mark.Star) e s os h rest = ap (λ x. length x ∷ nestings_from Other x rest) (expression_stays (kind.Mark mark.Star) refl os h)
binary_told (kind.Mark mark.Slash) e s os h rest = ap (λ x. length x ∷ nestings_from Other x rest) (expression_stays (kind.Mark mark.Slash) refl os h)
binary_told (kind.Mark mark.Percent) e s os h rest = ap (λ x. length x ∷ nestings_from Other x rest) (expression_stays (kind.Mark mark.Percent) refl os h)
binary_told (kind.Mark mark.StarPercent) e s os h rest = ap (λ x. length x ∷ nestings_from Other x rest) (expression_stays (kind.Mark mark.StarPercent) refl os h)
binary_told _ e s os h rest = cc

of_some_level : (n : ℕ) (o : Option BinOp) (s : Span) (x : BinOp × Span) → with_place (of_level n o) s ≡ Some x → is_some o ≡ true
of_some_level n (Some o) s x e = refl
of_some_level n None s x e = cc

pub is_binary : (n : ℕ) (t : Token) (x : BinOp × Span) → operator n t ≡ Some x → is_some (binary_of t.kind) ≡ true
is_binary n t x e = of_some_level n (binary_of t.kind) t.span x e

pub scan_operator : (n : ℕ) {d : ℕ} {o : BinOp × Span} {os : List Open} {f : Row Token} → length os ≡ d → Terminal d (operator n) o f → holds_expression os ≡ true → Scan anything Operand os f Other os
scan_operator n {o} {os} {f} at t h = scan_token (operator n) o f at t (λ u rest e p. binary_told u.kind (is_binary n u o e) u.span os h rest)

binary_kind : (k : TokenKind) → is_some (binary_of k) ≡ true → not (operand_goes_on k) ≡ true
binary_kind (kind.Mark mark.Dot) e = cc
binary_kind (kind.Mark mark.OpenBracket) e = cc
binary_kind (kind.Mark mark.OpenParen) e = cc
binary_kind k e = refl

pub operator_ends : (n : ℕ) (o : BinOp × Span) (t : Token) → operator n t ≡ Some o → not (operand_goes_on t.kind) ≡ true
operator_ends n o t e = binary_kind t.kind (is_binary n t o e)

-- ---- where an initializer may begin

value_told : (k : TokenKind) → is_mark_kind mark.OpenBrace k ≡ false → (s : Span) (os : List Open) (rest : List Token) → nestings_from Value os (token k s ∷ rest) ≡ nestings_from Other os (token k s ∷ rest)
value_told (kind.Mark mark.OpenBrace) e s os rest = cc
value_told (kind.Mark m) e s os rest = refl
value_told (kind.Key key.KwIf) e s os rest = refl
value_told (kind.Key k) e s os rest = refl
value_told (kind.Name w) e s os rest = refl
value_told (kind.Number n) e s os rest = refl

-- what begins with no `{`
valued : {A : Type 0} {p : List Token → Bool} {c : Before} {os now : List Open} (R : Language Token A) (test : Token → Bool) → StartsWith test R → ((s : Span) → test (marked mark.OpenBrace s) ≡ false)
    → (x : A) (g : Row Token) → R x g → Scan p Other os g c now → Scan p Value os g c now
valued R test begins other x [] r one = absurd (begins.nonempty x r)
valued {os = os} R test begins other x (m ∷ row) r one = record {
  told = λ rest e. value_told m.token.kind (not_mark test mark.OpenBrace other m.token (begins.first x m row r)) m.token.span os (tokens row ++ rest) ∙ one.told rest e;
}

pub valued_expression : {p : List Token → Bool} {c : Before} {os now : List Open} {d : ℕ} {x : Expr} {g : Row Token} → Spells grammar.expression x d g → Scan p Other os g c now → Scan p Value os g c now
valued_expression {d = d} {x} {g} r one = valued (Rule grammar.expression d) begins_expression (starts_expression d) (λ s. refl) x g r one

pub valued_postfix : {p : List Token → Bool} {c : Before} {os now : List Open} {d : ℕ} {x : Expr} {g : Row Token} → Spells grammar.postfix x d g → Scan p Other os g c now → Scan p Value os g c now
valued_postfix {d = d} {x} {g} r one = valued (Rule grammar.postfix d) begins_postfix (starts_postfix d) (λ s. refl) x g r one
