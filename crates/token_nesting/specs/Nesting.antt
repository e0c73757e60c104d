-- How deep each token of a text nests, told by the tokens alone, from left to right: how many are open at it. At each token first
-- what has ended before it is taken away; then it opens what it opens, and is counted; then a bracket that closes takes its
-- partner away.
use Rattle.std.specs.Prelude.{ℕ, Bool, true, false, ◌&&◌, not, if◌then◌else◌, List, [], ◌∷◌, length}
use Rattle.ivory_lexer.specs.declared.Token.{Token}
use Rattle.ivory_lexer.specs.declared.TokenKind.{TokenKind}
use Rattle.ivory_lexer.specs.declared.TokenKind.TheVariants as kind
use Rattle.ivory_lexer.specs.declared.Mark.TheVariants as mark
use Rattle.ivory_lexer.specs.declared.Key.TheVariants as key
use Rattle.reading.specs.Row.{starts}
use Rattle.expression_grammar.specs.Tokens.{is_mark_kind, is_key_kind, is_number}
use Rattle.token_nesting.specs.Open.{Open, Bracket, Area, Operator, Choice, Arm, Branch, Before, Operand, Start, Value, Else, Ref, Other}

-- ---- what has ended before a token

abbrev pub operand_goes_on : TokenKind → Bool
operand_goes_on (kind.Mark mark.Dot) = true
operand_goes_on (kind.Mark mark.OpenBracket) = true
operand_goes_on (kind.Mark mark.OpenParen) = true
operand_goes_on _ = false

abbrev pub ends_expression : TokenKind → Bool
ends_expression (kind.Mark mark.CloseParen) = true
ends_expression (kind.Mark mark.CloseBracket) = true
ends_expression (kind.Mark mark.Comma) = true
ends_expression (kind.Mark mark.Semicolon) = true
ends_expression (kind.Mark mark.Colon) = true
ends_expression (kind.Mark mark.OpenBrace) = true
ends_expression (kind.Mark mark.CloseBrace) = true
ends_expression _ = false

-- what ends behind an operand, where a token of this kind comes next: a prefix operator, an arm, and an area, but not at its `]`
abbrev pub ends_behind_operand : TokenKind → Open → Bool
ends_behind_operand k Operator = not (operand_goes_on k)
ends_behind_operand k Arm = ends_expression k
ends_behind_operand k Area = not (is_mark_kind mark.CloseBracket k)
ends_behind_operand k _ = false

-- what ends behind a statement, where a token of this kind comes next: an `if` behind `else`
abbrev pub ends_behind_statement : TokenKind → Open → Bool
ends_behind_statement k Branch = not (is_key_kind key.KwElse k)
ends_behind_statement k _ = false

-- these without the innermost ones that have ended
abbrev pub without : (Open → Bool) → List Open → List Open
without ended [] = []
without ended (o ∷ os) = if ended o then without ended os else o ∷ os

abbrev pub still_open : Before → TokenKind → List Open → List Open
still_open Operand k os = without (ends_behind_operand k) os
still_open Start k os = without (ends_behind_statement k) os
still_open _ k os = os

-- ---- what a token opens

-- a prefix operator may stand here: behind an operand `-` and `*` stand between two, and a `*` that begins a statement is a store's
abbrev pub operand_begins : Before → Bool
operand_begins Operand = false
operand_begins Start = false
operand_begins _ = true

-- behind an operand a `[` takes an element
abbrev pub opened_by_bracket : Before → Open
opened_by_bracket Operand = Bracket
opened_by_bracket _ = Area

abbrev pub with_operator : Bool → List Open → List Open
with_operator b os = if b then Operator ∷ os else os

-- the `:` of a `?`, or of something else
abbrev pub at_colon : List Open → List Open
at_colon (Choice ∷ os) = Arm ∷ os
at_colon os = os

abbrev pub at_if : Before → List Open → List Open
at_if Else os = Branch ∷ os
at_if _ os = os

-- what is open at a token of this kind; a `-` before a number is the number's sign
abbrev pub open_at : Before → TokenKind → Bool → List Open → List Open
open_at b (kind.Mark mark.OpenParen) number_next os = Bracket ∷ os
open_at b (kind.Mark mark.OpenBrace) number_next os = Bracket ∷ os
open_at b (kind.Mark mark.OpenBracket) number_next os = opened_by_bracket b ∷ os
open_at b (kind.Mark mark.Tilde) number_next os = with_operator (operand_begins b) os
open_at b (kind.Mark mark.Bang) number_next os = with_operator (operand_begins b) os
open_at b (kind.Mark mark.Star) number_next os = with_operator (operand_begins b) os
open_at b (kind.Mark mark.Minus) number_next os = with_operator (operand_begins b && not number_next) os
open_at b (kind.Mark mark.Question) number_next os = Choice ∷ os
open_at b (kind.Mark mark.Colon) number_next os = at_colon os
open_at b (kind.Key key.KwIf) number_next os = at_if b os
open_at b _ number_next os = os

-- ---- behind a token

-- a closing bracket closes its partner; the `]` of an area closes nothing
abbrev pub closed : List Open → List Open
closed (Bracket ∷ os) = os
closed os = os

abbrev pub open_behind : TokenKind → List Open → List Open
open_behind (kind.Mark mark.CloseParen) os = closed os
open_behind (kind.Mark mark.CloseBracket) os = closed os
open_behind (kind.Mark mark.CloseBrace) os = closed os
open_behind _ os = os

-- a name behind `ref` is a region's
abbrev pub behind_name : Before → Before
behind_name Ref = Other
behind_name _ = Operand

abbrev pub behind_bracket : List Open → Before
behind_bracket (Area ∷ os) = Other
behind_bracket _ = Operand

abbrev pub behind_brace : Before → Before
behind_brace Value = Value
behind_brace _ = Start

abbrev pub behind : Before → TokenKind → List Open → Before
behind b (kind.Name w) os = behind_name b
behind b (kind.Number n) os = Operand
behind b (kind.Key key.KwTrue) os = Operand
behind b (kind.Key key.KwFalse) os = Operand
behind b (kind.Key key.KwResult) os = Operand
behind b (kind.Key key.KwBool) os = Operand
behind b (kind.Key key.KwUint8t) os = Operand
behind b (kind.Key key.KwUint16t) os = Operand
behind b (kind.Key key.KwUint32t) os = Operand
behind b (kind.Key key.KwUint64t) os = Operand
behind b (kind.Key key.KwInt8t) os = Operand
behind b (kind.Key key.KwInt16t) os = Operand
behind b (kind.Key key.KwInt32t) os = Operand
behind b (kind.Key key.KwInt64t) os = Operand
behind b (kind.Key key.KwElse) os = Else
behind b (kind.Key key.KwRef) os = Ref
behind b (kind.Mark mark.CloseParen) os = Operand
behind b (kind.Mark mark.CloseBracket) os = behind_bracket os
behind b (kind.Mark mark.Semicolon) os = Start
behind b (kind.Mark mark.CloseBrace) os = Start
behind b (kind.Mark mark.OpenBrace) os = behind_brace b
behind b (kind.Mark mark.Assign) os = Value
behind b (kind.Mark mark.Comma) os = Value
behind b _ os = Other

-- ---- the nesting at each token

-- behind this token, with this open
abbrev pub nestings_from : Before → List Open → List Token → List ℕ
nestings_from b os [] = []
nestings_from b os (t ∷ ts) =
    let now = open_at b t.kind (starts is_number ts) (still_open b t.kind os) in
    length now ∷ nestings_from (behind b t.kind now) (open_behind t.kind now) ts

abbrev pub nestings : List Token → List ℕ
nestings ts = nestings_from Start [] ts
