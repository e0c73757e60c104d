-- What the tokens of a list tell, from what those of each element tell.
use Rattle.std.proofs.Common.{◌≡◌, ℕ, Bool, true, List, [], ◌∷◌, ◌++◌, inl, inr, refl, sym, ap, ◌∙◌, subst, append_assoc, length, Some}
use Rattle.iv_words.specs.declared.Span.{Span}
use Rattle.ivory_lexer.specs.declared.Token.{Token}
use Rattle.ivory_lexer.specs.declared.TokenKind.{TokenKind}
use Rattle.ivory_lexer.specs.declared.TokenKind.TheVariants as kind
use Rattle.ivory_lexer.specs.declared.Mark.{Mark}
use Rattle.ivory_lexer.specs.declared.Mark.TheVariants as mark
use Rattle.reading.specs.Row.{Row, tokens}
use Rattle.reading.specs.Language.{Language, Terminal, After, Many, Separated}
use Rattle.expression_grammar.specs.Tokens.{symbol}
use Rattle.expression_grammar.proofs.Tokens.{at_mark, symbol_passes}
use Rattle.module_grammar.specs.Pieces.{UpToParen}
use Rattle.token_nesting.specs.Open.{Open, Bracket, Before, Operand, Value, Other}
use Rattle.token_nesting.proofs.Scan.{Scan, anything, next, and, before_that, nothing, first_passes, first_of_two}
use Rattle.token_nesting.proofs.Tokens.{scan_mark}

mark_is : {x : Span} (q : TokenKind → Bool) (m : Mark) → q (kind.Mark m) ≡ true → (t : Token) → symbol m t ≡ Some x → q t.kind ≡ true
mark_is {x} q m is t e = at_mark (λ y. q y.kind) true m (λ s. is) t (symbol_passes m t x e)

-- how each element of a list within a bracket is told: the first of them stands behind this, each other one behind a comma
pub record Elements {A : Type 0} (R : Language Token A) (q : TokenKind → Bool) (b : Before) (os : List Open) : Type 0 where
  pub first : (x : A) (f : Row Token) → R x f → Scan (next q) b (Bracket ∷ os) f Operand (Bracket ∷ os)
  pub later : (x : A) (f : Row Token) → R x f → Scan (next q) Value (Bracket ∷ os) f Operand (Bracket ∷ os)
  pub comma : q (kind.Mark mark.Comma) ≡ true

abbrev Further : (TokenKind → Bool) → List Open → Row Token → Type 0
Further q os row = Scan (next q) Operand (Bracket ∷ os) row Operand (Bracket ∷ os) × ((rest : List Token) → next q rest ≡ true → next q (tokens row ++ rest) ≡ true)

module _ {A : Type 0} {R : Language Token A} {q : TokenKind → Bool} {b : Before} {os : List Open} {d : ℕ} (each : Elements R q b os) (at : length (Bracket ∷ os) ≡ d) where
  further : (xs : List A) (row : Row Token) → Many (After (Terminal d (symbol mark.Comma)) R) xs row → Further q os row
  further [] row is = subst (Further q os) (sym is) (nothing, λ rest e. e)
  further (x ∷ xs) row (f, g, is, (s, h, i, parts, t, r), rs) =
      let others = further xs g rs in
      let whole : row ≡ h ++ (i ++ g) = is ∙ ap (λ y. y ++ g) parts ∙ append_assoc h i g in
      subst (Further q os) (sym whole) (
        and (scan_mark mark.Comma at t (λ s rest. refl)) (before_that (each.later x i r) others.0 others.1),
        λ rest e. first_of_two q (symbol mark.Comma) s h t (λ u p. mark_is q mark.Comma each.comma u p) (i ++ g) rest,
      )

  pub separated : (xs : List A) (row : Row Token) → Separated (Terminal d (symbol mark.Comma)) R xs row → Scan (next q) b (Bracket ∷ os) row Operand (Bracket ∷ os)
  separated xs row (x, f, g, is, r, (more, rs, same)) =
      let others = further more g rs in
      subst (λ y. Scan (next q) b (Bracket ∷ os) y Operand (Bracket ∷ os)) (sym is) (before_that (each.first x f r) others.0 others.1)

pub up_to_paren : {A : Type 0} {R : Language Token A} {q : TokenKind → Bool} {os : List Open} {d : ℕ} {to : Span} → Elements R q Other os → length (Bracket ∷ os) ≡ d → q (kind.Mark mark.CloseParen) ≡ true
    → (xs : List A) (row : Row Token) → UpToParen d R (xs, to) row → Scan anything Other (Bracket ∷ os) row Operand os
up_to_paren each at close xs row (inl (c, t, is)) = scan_mark mark.CloseParen at t (λ s rest. refl)
up_to_paren {q = q} {os} each at close xs row (inr (ys, f, g, is, r, (c, t, same))) =
    subst (λ y. Scan anything Other (Bracket ∷ os) y Operand os) (sym is)
    (before_that (separated each at ys f r) (scan_mark mark.CloseParen at t (λ s rest. refl)) (λ rest e. first_passes q (symbol mark.CloseParen) c g t (λ u p. mark_is q mark.CloseParen close u p) rest))

-- without separators
pub all : {A : Type 0} {R : Language Token A} {b : Before} {os : List Open} → ((x : A) (f : Row Token) → R x f → Scan anything b os f b os) → (xs : List A) (row : Row Token) → Many R xs row → Scan anything b os row b os
all {b = b} {os} each [] row is = subst (λ y. Scan anything b os y b os) (sym is) nothing
all {b = b} {os} each (x ∷ xs) row (f, g, is, r, rs) = subst (λ y. Scan anything b os y b os) (sym is) (and (each x f r) (all each xs g rs))
