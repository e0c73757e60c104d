-- Values that are made of the place of their tokens.
use Rattle.std.proofs.Common.{◌≡◌, ℕ, Bool, sym, ap, ◌∙◌, subst}
use Rattle.iv_words.specs.declared.Span.{Span}
use Rattle.ivory_lexer.specs.declared.Token.{Token}
use Rattle.reading.specs.Row.{Row, tokens}
use Rattle.reading.specs.Language.{Language, Spanned}
use Rattle.reading.specs.Reader.{Reader}
use Rattle.reading.specs.Good.{Good}
use Rattle.reading.proofs.Spans.{good_spanned}
use Rattle.reading.proofs.Starts.{StartsWith, starts_spanned}
use Rattle.reading.proofs.Plain.{Plain, plain_spanned}
use Rattle.expression_grammar.specs.Tokens.{span_of, signs}
use Rattle.module_grammar.specs.TypeReader.{placed}

abbrev pub Placed : {A : Type 0} → Language Token (Span → A) → Language Token A
Placed R = Spanned (λ make ts. make (span_of ts)) R

pub good_placed : {A : Type 0} {limit : ℕ} {c : Token → Bool} {R : Language Token (Span → A)} {p : Reader Token (Span → A)} → Good signs limit c R p → Good signs limit c (Placed R) (placed p)
good_placed {A} g = good_spanned (λ (make : Span → A) ts. make (span_of ts)) g

pub starts_placed : {A : Type 0} {test : Token → Bool} {R : Language Token (Span → A)} → StartsWith test R → StartsWith test (Placed R)
starts_placed {A} s = starts_spanned (λ (make : Span → A) ts. make (span_of ts)) s

pub plain_placed : {A : Type 0} {R : Language Token (Span → A)} → Plain signs R → Plain signs (Placed R)
plain_placed {A} p = plain_spanned (λ (make : Span → A) ts. make (span_of ts)) p

-- ---- what a production spells: an equal value is spelled by an equal row, and what is made of a place by the row with that place

pub equals_spelled : {A : Type 0} (R : Language Token A) {v w : A} {row row2 : Row Token} → v ≡ w → row ≡ row2 → R w row2 → R v row
equals_spelled R {w = w} {row} is e r = subst (λ x. R x row) (sym is) (subst (R w) (sym e) r)

pub placed_spelled : {A : Type 0} (R : Language Token A) {v : A} {row row2 : Row Token} {made make : Span → A} → v ≡ made (span_of (tokens row)) → made ≡ make → row ≡ row2 → R (make (span_of (tokens row2))) row2 → R v row
placed_spelled R {row} {row2} {make = make} is same e r = equals_spelled R (is ∙ ap (λ f. f (span_of (tokens row))) same ∙ ap (λ y. make (span_of (tokens y))) e) e r
