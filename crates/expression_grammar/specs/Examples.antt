-- Expressions that are the whole text, and small ones with their trees.
use Rattle.std.specs.Prelude.{◌≡◌, ℕ, ◌+◌, pos, neg_ℤ, true, false, List, [], ◌∷◌}
use Rattle.iv_words.specs.declared.Span.{Span}
use Rattle.iv_words.specs.declared.IntKind.TheVariants as int
use Rattle.ivory_lexer.specs.declared.Token.{Token}
use Rattle.ivory_lexer.specs.declared.TokenKind.{TokenKind}
use Rattle.ivory_lexer.specs.declared.TokenKind.TheVariants as kind
use Rattle.ivory_lexer.specs.declared.Mark.{Mark}
use Rattle.ivory_lexer.specs.declared.Mark.TheVariants as mark
use Rattle.ivory_lexer.specs.declared.Key.TheVariants as key
use Rattle.ivory_tree.specs.declared.PrefixOp.TheVariants as prefix
use Rattle.ivory_tree.specs.declared.BinOp.{BinOp}
use Rattle.ivory_tree.specs.declared.BinOp.TheVariants as op
use Rattle.ivory_tree.specs.declared.Expr.{Expr}
use Rattle.ivory_tree.specs.declared.ExprKind.{ExprKind}
use Rattle.ivory_tree.specs.declared.ExprKind.TheVariants as form
use Rattle.ivory_tree.specs.declared.Step.TheVariants as part
use Rattle.reading.specs.Language.{Language}
use Rattle.reading.specs.Reader.{whole}
use Rattle.reading.specs.Exact.{Answer, Tree, UnexpectedToken, DeepToken, answer, Spelled, Exact}
use Rattle.expression_grammar.specs.Tokens.{signs}
use Rattle.expression_grammar.specs.Grammar.{Rule}
use Rattle.expression_grammar.specs.Grammar as spelled
use Rattle.expression_grammar.specs.Reader.{expression}

-- an expression that nothing encloses
abbrev pub Text : Language Token Expr
Text x row = Rule spelled.expression 0 x row

abbrev pub parse : ℕ → List Token → Answer Expr
parse limit ts = answer ts (whole (expression limit) ts)

abbrev pub ReadExactly : Type 0
ReadExactly = (limit : ℕ) → Exact signs limit Text (parse limit)

abbrev pub OneTree : Type 0
OneTree = (x y : Expr) (ts : List Token) → Spelled Text x ts → Spelled Text y ts → x ≡ y

-- ---- tokens of one byte each, from byte 0 on

abbrev from : ℕ → ℕ → Span
from start end = record { start = start; end = end }

abbrev placed : ℕ → List TokenKind → List Token
placed n [] = []
placed n (k ∷ ks) = record { kind = k; span = from n (n + 1) } ∷ placed (n + 1) ks

abbrev read : ℕ → List TokenKind → Answer Expr
read limit ks = parse limit (placed 0 ks)

abbrev letter : ℕ → TokenKind
letter c = kind.Name (c ∷ [])

abbrev sign : Mark → TokenKind
sign m = kind.Mark m

abbrev node : ExprKind → Span → Expr
node kind span = record { kind = kind; span = span }

-- a letter as an expression, at a place
abbrev named : ℕ → ℕ → Expr
named c n = node (form.Var (c ∷ [])) (from n (n + 1))

-- of two operands, with the operator at a place
abbrev binary : BinOp → ℕ → Expr → Expr → Span → Expr
binary o n left right s = node (form.Chain left (record { op = o; at = from n (n + 1); right = right } ∷ [])) s

-- ---- operators

-- a || b && c | d ^ e & f == g < h << i + j * k
abbrev pub LevelsRise : Type 0
LevelsRise =
    read 0 (letter 97 ∷ sign mark.PipePipe ∷ letter 98 ∷ sign mark.AmpAmp ∷ letter 99 ∷ sign mark.Pipe ∷ letter 100 ∷ sign mark.Caret ∷ letter 101 ∷ sign mark.Amp ∷ letter 102
    ∷ sign mark.EqualEqual ∷ letter 103 ∷ sign mark.Less ∷ letter 104 ∷ sign mark.Shl ∷ letter 105 ∷ sign mark.Plus ∷ letter 106 ∷ sign mark.Star ∷ letter 107 ∷ [])
    ≡ Tree (binary op.OrElse 1 (named 97 0) (binary op.AndAlso 3 (named 98 2) (binary op.Or 5 (named 99 4) (binary op.Xor 7 (named 100 6) (binary op.And 9 (named 101 8)
    (binary op.Eq 11 (named 102 10) (binary op.Lt 13 (named 103 12) (binary op.Shl 15 (named 104 14) (binary op.Add 17 (named 105 16) (binary op.Mul 19 (named 106 18) (named 107 20)
    (from 18 21)) (from 16 21)) (from 14 21)) (from 12 21)) (from 10 21)) (from 8 21)) (from 6 21)) (from 4 21)) (from 2 21)) (from 0 21))

-- a * b + c << d < e == f & g ^ h | i && j || k
abbrev pub LevelsFall : Type 0
LevelsFall =
    read 0 (letter 97 ∷ sign mark.Star ∷ letter 98 ∷ sign mark.Plus ∷ letter 99 ∷ sign mark.Shl ∷ letter 100 ∷ sign mark.Less ∷ letter 101 ∷ sign mark.EqualEqual ∷ letter 102
    ∷ sign mark.Amp ∷ letter 103 ∷ sign mark.Caret ∷ letter 104 ∷ sign mark.Pipe ∷ letter 105 ∷ sign mark.AmpAmp ∷ letter 106 ∷ sign mark.PipePipe ∷ letter 107 ∷ [])
    ≡ Tree (binary op.OrElse 19 (binary op.AndAlso 17 (binary op.Or 15 (binary op.Xor 13 (binary op.And 11 (binary op.Eq 9 (binary op.Lt 7 (binary op.Shl 5 (binary op.Add 3
    (binary op.Mul 1 (named 97 0) (named 98 2) (from 0 3)) (named 99 4) (from 0 5)) (named 100 6) (from 0 7)) (named 101 8) (from 0 9)) (named 102 10) (from 0 11)) (named 103 12)
    (from 0 13)) (named 104 14) (from 0 15)) (named 105 16) (from 0 17)) (named 106 18) (from 0 19)) (named 107 20) (from 0 21))

-- a - b + c
abbrev pub ChainsAreFlat : Type 0
ChainsAreFlat =
    read 0 (letter 97 ∷ sign mark.Minus ∷ letter 98 ∷ sign mark.Plus ∷ letter 99 ∷ [])
    ≡ Tree (node (form.Chain (named 97 0) (record { op = op.Sub; at = from 1 2; right = named 98 2 } ∷ record { op = op.Add; at = from 3 4; right = named 99 4 } ∷ [])) (from 0 5))

-- ---- signs

-- - 5, where nothing may nest
abbrev pub SignOfNumber : Type 0
SignOfNumber = read 0 (sign mark.Minus ∷ kind.Number 5 ∷ []) ≡ Tree (node (form.Lit (neg_ℤ (pos 5))) (from 0 2))

-- a - 5
abbrev pub SignBetween : Type 0
SignBetween = read 0 (letter 97 ∷ sign mark.Minus ∷ kind.Number 5 ∷ []) ≡ Tree (binary op.Sub 1 (named 97 0) (node (form.Lit (pos 5)) (from 2 3)) (from 0 3))

-- - a, where nothing may nest, and where one level may
abbrev pub PrefixNests : Type 0
PrefixNests = read 0 (sign mark.Minus ∷ letter 97 ∷ []) ≡ DeepToken 0

abbrev pub PrefixIsNode : Type 0
PrefixIsNode = read 1 (sign mark.Minus ∷ letter 97 ∷ []) ≡ Tree (node (form.Prefix prefix.Neg (named 97 1)) (from 0 2))

-- ---- what nests

-- a ? b : c
abbrev pub ChoiceNests : Type 0
ChoiceNests = read 0 (letter 97 ∷ sign mark.Question ∷ letter 98 ∷ sign mark.Colon ∷ letter 99 ∷ []) ≡ DeepToken 1

abbrev pub ChoiceIsNode : Type 0
ChoiceIsNode = read 1 (letter 97 ∷ sign mark.Question ∷ letter 98 ∷ sign mark.Colon ∷ letter 99 ∷ []) ≡ Tree (node (form.Cond (named 97 0) (named 98 2) (named 99 4)) (from 0 5))

-- a ? b : c ? d : e
abbrev pub LastArmNests : Type 0
LastArmNests =
    read 1 (letter 97 ∷ sign mark.Question ∷ letter 98 ∷ sign mark.Colon ∷ letter 99 ∷ sign mark.Question ∷ letter 100 ∷ sign mark.Colon ∷ letter 101 ∷ []) ≡ DeepToken 5

-- ( a ), and ( a ) [ b ] . c
abbrev pub ParenthesesNest : Type 0
ParenthesesNest = read 0 (sign mark.OpenParen ∷ letter 97 ∷ sign mark.CloseParen ∷ []) ≡ DeepToken 0

abbrev pub ParenthesesAreNoNode : Type 0
ParenthesesAreNoNode = read 1 (sign mark.OpenParen ∷ letter 97 ∷ sign mark.CloseParen ∷ []) ≡ Tree (named 97 1)

abbrev pub StepsAreFlat : Type 0
StepsAreFlat =
    read 1 (sign mark.OpenParen ∷ letter 97 ∷ sign mark.CloseParen ∷ sign mark.OpenBracket ∷ letter 98 ∷ sign mark.CloseBracket ∷ sign mark.Dot ∷ letter 99 ∷ [])
    ≡ Tree (node (form.Postfix (named 97 1) (part.Index (named 98 4) (from 3 6) ∷ part.Field (record { text = 99 ∷ []; span = from 7 8 }) ∷ [])) (from 0 8))

-- ---- where a text goes wrong

-- a + *, where nothing may nest, and where one level may
abbrev pub DeepBeforeEnd : Type 0
DeepBeforeEnd = read 0 (letter 97 ∷ sign mark.Plus ∷ sign mark.Star ∷ []) ≡ DeepToken 2

abbrev pub EndsEarly : Type 0
EndsEarly = read 1 (letter 97 ∷ sign mark.Plus ∷ sign mark.Star ∷ []) ≡ UnexpectedToken 3

-- a b
abbrev pub NoOperator : Type 0
NoOperator = read 0 (letter 97 ∷ letter 98 ∷ []) ≡ UnexpectedToken 1

-- ---- words

abbrev pub Words : Type 0
Words =
    (read 0 (kind.Key key.KwTrue ∷ []) ≡ Tree (node (form.Truth true) (from 0 1)))
    × (read 0 (kind.Key key.KwFalse ∷ []) ≡ Tree (node (form.Truth false) (from 0 1)))
    × (read 0 (kind.Key key.KwResult ∷ []) ≡ Tree (node form.Outcome (from 0 1)))

-- uint8_t ( a ), raw ( a )
abbrev pub CallsOfOne : Type 0
CallsOfOne =
    (read 1 (kind.Key key.KwUint8t ∷ sign mark.OpenParen ∷ letter 97 ∷ sign mark.CloseParen ∷ []) ≡ Tree (node (form.Cast int.U8 (named 97 2)) (from 0 4)))
    × (read 1 (kind.Key key.KwRaw ∷ sign mark.OpenParen ∷ letter 97 ∷ sign mark.CloseParen ∷ []) ≡ Tree (node (form.Raw (named 97 2)) (from 0 4)))

-- toix ( 5 , a ), wrapix ( 5 , a ), bits ( a , b )
abbrev pub CallsOfTwo : Type 0
CallsOfTwo =
    (read 1 (kind.Key key.KwToix ∷ sign mark.OpenParen ∷ kind.Number 5 ∷ sign mark.Comma ∷ letter 97 ∷ sign mark.CloseParen ∷ []) ≡ Tree (node (form.ToIx 5 (named 97 4)) (from 0 6)))
    × (read 1 (kind.Key key.KwWrapix ∷ sign mark.OpenParen ∷ kind.Number 5 ∷ sign mark.Comma ∷ letter 97 ∷ sign mark.CloseParen ∷ []) ≡ Tree (node (form.WrapIx 5 (named 97 4)) (from 0 6)))
    × (read 1 (kind.Key key.KwBits ∷ sign mark.OpenParen ∷ letter 97 ∷ sign mark.Comma ∷ letter 98 ∷ sign mark.CloseParen ∷ []) ≡ Tree (node (form.MakeBits (97 ∷ []) (named 98 4)) (from 0 6)))

-- set ( a , b , c )
abbrev pub CallOfThree : Type 0
CallOfThree =
    read 1 (kind.Key key.KwSet ∷ sign mark.OpenParen ∷ letter 97 ∷ sign mark.Comma ∷ letter 98 ∷ sign mark.Comma ∷ letter 99 ∷ sign mark.CloseParen ∷ [])
    ≡ Tree (node (form.Set (named 97 2) (record { text = 98 ∷ []; span = from 4 5 }) (named 99 6)) (from 0 8))
