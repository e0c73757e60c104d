-- What has ended before a token, and what is still open.
use Rattle.std.proofs.Common.{◌≡◌, ℕ, Bool, true, false, not, if◌then◌else◌, List, [], ◌∷◌, refl, ap, length}
use Rattle.ivory_lexer.specs.declared.Token.{Token}
use Rattle.ivory_lexer.specs.declared.TokenKind.{TokenKind}
use Rattle.ivory_lexer.specs.declared.TokenKind.TheVariants as kind
use Rattle.ivory_lexer.specs.declared.Mark.TheVariants as mark
use Rattle.reading.specs.Row.{starts}
use Rattle.expression_grammar.specs.Tokens.{is_number}
use Rattle.token_nesting.specs.Open.{Open, Bracket, Area, Operator, Choice, Arm, Branch, Before, Operand, Start}
use Rattle.token_nesting.specs.Nesting.{operand_goes_on, ends_expression, ends_behind_operand, ends_behind_statement, still_open, open_at, open_behind, behind, nestings_from}
use Rattle.token_nesting.proofs.Scan.{next}

-- an operand may stand here: not as the element type of an area
abbrev pub holds_operand : List Open → Bool
holds_operand (Area ∷ os) = false
holds_operand os = true

-- an expression may stand here: not as the operand of a prefix operator
abbrev pub holds_expression : List Open → Bool
holds_expression (Area ∷ os) = false
holds_expression (Operator ∷ os) = false
holds_expression os = true

pub of_operand : (os : List Open) → holds_expression os ≡ true → holds_operand os ≡ true
of_operand [] h = refl
of_operand (Bracket ∷ os) h = refl
of_operand (Area ∷ os) h = h
of_operand (Operator ∷ os) h = refl
of_operand (Choice ∷ os) h = refl
of_operand (Arm ∷ os) h = refl
of_operand (Branch ∷ os) h = refl

-- ---- what is still open

-- before a token with which an operand goes on
pub operand_stays : (k : TokenKind) → operand_goes_on k ≡ true → ends_expression k ≡ false → (os : List Open) → holds_operand os ≡ true → still_open Operand k os ≡ os
operand_stays k on end [] h = refl
operand_stays k on end (Bracket ∷ os) h = refl
operand_stays k on end (Area ∷ os) h = cc
operand_stays k on end (Operator ∷ os) h = ap (λ b. if not b then still_open Operand k os else Operator ∷ os) on
operand_stays k on end (Choice ∷ os) h = refl
operand_stays k on end (Arm ∷ os) h = ap (λ b. if b then still_open Operand k os else Arm ∷ os) end
operand_stays k on end (Branch ∷ os) h = refl

-- before an operator or a `?`
pub expression_stays : (k : TokenKind) → ends_expression k ≡ false → (os : List Open) → holds_expression os ≡ true → still_open Operand k os ≡ os
expression_stays k end [] h = refl
expression_stays k end (Bracket ∷ os) h = refl
expression_stays k end (Area ∷ os) h = cc
expression_stays k end (Operator ∷ os) h = cc
expression_stays k end (Choice ∷ os) h = refl
expression_stays k end (Arm ∷ os) h = ap (λ b. if b then still_open Operand k os else Arm ∷ os) end
expression_stays k end (Branch ∷ os) h = refl

-- ---- what has ended

-- what follows ends this, behind an operand
abbrev pub ends : Open → List Token → Bool
ends o ts = next (λ k. ends_behind_operand k o) ts

abbrev pub operand_stops : List Token → Bool
operand_stops ts = next (λ k. not (operand_goes_on k)) ts

abbrev pub expression_stops : List Token → Bool
expression_stops ts = next ends_expression ts

abbrev told_with : Before → Token → List Token → List Open → List ℕ
told_with b t ts os = let now = open_at b t.kind (starts is_number ts) os in length now ∷ nestings_from (behind b t.kind now) (open_behind t.kind now) ts

pub operand_ends : (o : Open) (os : List Open) (rest : List Token) → ends o rest ≡ true → nestings_from Operand (o ∷ os) rest ≡ nestings_from Operand os rest
operand_ends o os [] e = refl
operand_ends o os (t ∷ ts) e = ap (λ b. told_with Operand t ts (if b then still_open Operand t.kind os else o ∷ os)) e

pub branch_ends : (os : List Open) (rest : List Token) → next (λ k. ends_behind_statement k Branch) rest ≡ true → nestings_from Start (Branch ∷ os) rest ≡ nestings_from Start os rest
branch_ends os [] e = refl
branch_ends os (t ∷ ts) e = ap (λ b. told_with Start t ts (if b then still_open Start t.kind os else Branch ∷ os)) e

end_kind : (k : TokenKind) → ends_expression k ≡ true → not (operand_goes_on k) ≡ true
end_kind (kind.Mark mark.Dot) e = cc
end_kind (kind.Mark mark.OpenBracket) e = cc
end_kind (kind.Mark mark.OpenParen) e = cc
end_kind k e = refl

pub expression_ends_operand : (rest : List Token) → expression_stops rest ≡ true → operand_stops rest ≡ true
expression_ends_operand [] e = refl
expression_ends_operand (t ∷ ts) e = end_kind t.kind e
