-- Where nothing is open that ends by itself: within a bracket, or within nothing.
use Rattle.std.proofs.Common.{◌≡◌, Bool, true, false, List, [], ◌∷◌, refl}
use Rattle.iv_words.specs.declared.Span.{Span}
use Rattle.ivory_lexer.specs.declared.Token.{Token}
use Rattle.ivory_lexer.specs.declared.TokenKind.{TokenKind}
use Rattle.ivory_lexer.specs.declared.TokenKind.TheVariants as kind
use Rattle.ivory_lexer.specs.declared.Mark.TheVariants as mark
use Rattle.expression_grammar.proofs.Tokens.{token}
use Rattle.token_nesting.specs.Open.{Open, Bracket, Operand, Start}
use Rattle.token_nesting.specs.Nesting.{ends_expression, still_open, nestings_from}
use Rattle.token_nesting.proofs.Ends.{holds_expression, expression_stops}

abbrev pub ground : List Open → Bool
ground [] = true
ground (Bracket ∷ os) = true
ground (o ∷ os) = false

pub of_ground : (os : List Open) → ground os ≡ true → holds_expression os ≡ true
of_ground [] h = refl
of_ground (Bracket ∷ os) h = refl
of_ground (o ∷ os) h = cc

pub ground_stays : (k : TokenKind) (os : List Open) → ground os ≡ true → still_open Operand k os ≡ os
ground_stays k [] h = refl
ground_stays k (Bracket ∷ os) h = refl
ground_stays k (o ∷ os) h = cc

-- what ends an expression reads the same behind an initializer's `}`
ended_same : (k : TokenKind) → ends_expression k ≡ true → (s : Span) (os : List Open) → ground os ≡ true → (rest : List Token) → nestings_from Start os (token k s ∷ rest) ≡ nestings_from Operand os (token k s ∷ rest)
ended_same (kind.Mark mark.CloseParen) e s [] h rest = refl
ended_same (kind.Mark mark.CloseBracket) e s [] h rest = refl
ended_same (kind.Mark mark.Comma) e s [] h rest = refl
ended_same (kind.Mark mark.Semicolon) e s [] h rest = refl
ended_same (kind.Mark mark.Colon) e s [] h rest = refl
ended_same (kind.Mark mark.OpenBrace) e s [] h rest = refl
ended_same (kind.Mark mark.CloseBrace) e s [] h rest = refl
ended_same (kind.Mark mark.CloseParen) e s (Bracket ∷ os) h rest = refl
ended_same (kind.Mark mark.CloseBracket) e s (Bracket ∷ os) h rest = refl
ended_same (kind.Mark mark.Comma) e s (Bracket ∷ os) h rest = refl
ended_same (kind.Mark mark.Semicolon) e s (Bracket ∷ os) h rest = refl
ended_same (kind.Mark mark.Colon) e s (Bracket ∷ os) h rest = refl
ended_same (kind.Mark mark.OpenBrace) e s (Bracket ∷ os) h rest = refl
ended_same (kind.Mark mark.CloseBrace) e s (Bracket ∷ os) h rest = refl
ended_same k e s (o ∷ os) h rest = cc
ended_same k e s [] h rest = cc

pub behind_brace_same : (os : List Open) → ground os ≡ true → (rest : List Token) → expression_stops rest ≡ true → nestings_from Start os rest ≡ nestings_from Operand os rest
behind_brace_same os h [] e = refl
behind_brace_same os h (t ∷ ts) e = ended_same t.kind e t.span os h ts
