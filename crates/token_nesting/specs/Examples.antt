-- Small pieces of texts with the nesting at each token.
use Rattle.std.specs.Prelude.{◌≡◌, ℕ, List, [], ◌∷◌}
use Rattle.ivory_lexer.specs.declared.Token.{Token}
use Rattle.ivory_lexer.specs.declared.TokenKind.{TokenKind}
use Rattle.ivory_lexer.specs.declared.TokenKind.TheVariants as kind
use Rattle.ivory_lexer.specs.declared.Mark.{Mark}
use Rattle.ivory_lexer.specs.declared.Mark.TheVariants as mark
use Rattle.ivory_lexer.specs.declared.Key.{Key}
use Rattle.ivory_lexer.specs.declared.Key.TheVariants as key
use Rattle.token_nesting.specs.Open.{Before, Start, Value, Other}
use Rattle.token_nesting.specs.Nesting.{nestings_from}

-- the places of the tokens say nothing
abbrev all : List TokenKind → List Token
all [] = []
all (k ∷ ks) = record { kind = k; span = record { start = 0; end = 0 } } ∷ all ks

abbrev nest : Before → List TokenKind → List ℕ
nest b ks = nestings_from b [] (all ks)

abbrev name : TokenKind
name = kind.Name (97 ∷ [])

abbrev number : TokenKind
number = kind.Number 5

abbrev sign : Mark → TokenKind
sign m = kind.Mark m

abbrev word : Key → TokenKind
word k = kind.Key k

-- a ? a : a ? a : a ;
abbrev pub LastArms : Type 0
LastArms =
    nest Other (name ∷ sign mark.Question ∷ name ∷ sign mark.Colon ∷ name ∷ sign mark.Question ∷ name ∷ sign mark.Colon ∷ name ∷ sign mark.Semicolon ∷ [])
    ≡ 0 ∷ 1 ∷ 1 ∷ 1 ∷ 1 ∷ 2 ∷ 2 ∷ 2 ∷ 2 ∷ 0 ∷ []

-- a ? a ? a : a : a ;
abbrev pub FirstArms : Type 0
FirstArms =
    nest Other (name ∷ sign mark.Question ∷ name ∷ sign mark.Question ∷ name ∷ sign mark.Colon ∷ name ∷ sign mark.Colon ∷ name ∷ sign mark.Semicolon ∷ [])
    ≡ 0 ∷ 1 ∷ 1 ∷ 2 ∷ 2 ∷ 2 ∷ 2 ∷ 1 ∷ 1 ∷ 0 ∷ []

-- - 5 - a ; and - a - 5 ;
abbrev pub Signs : Type 0
Signs =
    (nest Other (sign mark.Minus ∷ number ∷ sign mark.Minus ∷ name ∷ sign mark.Semicolon ∷ []) ≡ 0 ∷ 0 ∷ 0 ∷ 0 ∷ 0 ∷ [])
    × (nest Other (sign mark.Minus ∷ name ∷ sign mark.Minus ∷ number ∷ sign mark.Semicolon ∷ []) ≡ 1 ∷ 1 ∷ 0 ∷ 0 ∷ 0 ∷ [])

-- ~ - a . a [ a ] + a ;
abbrev pub Operands : Type 0
Operands =
    nest Other (sign mark.Tilde ∷ sign mark.Minus ∷ name ∷ sign mark.Dot ∷ name ∷ sign mark.OpenBracket ∷ name ∷ sign mark.CloseBracket ∷ sign mark.Plus ∷ name ∷ sign mark.Semicolon ∷ [])
    ≡ 1 ∷ 2 ∷ 2 ∷ 2 ∷ 2 ∷ 3 ∷ 3 ∷ 3 ∷ 0 ∷ 0 ∷ 0 ∷ []

-- * a = * a ; at the start of a statement
abbrev pub Stores : Type 0
Stores = nest Start (sign mark.Star ∷ name ∷ sign mark.Assign ∷ sign mark.Star ∷ name ∷ sign mark.Semicolon ∷ []) ≡ 0 ∷ 0 ∷ 0 ∷ 1 ∷ 1 ∷ 0 ∷ []

-- { { 5 } , { * a } } ; as an initializer
abbrev pub Initializers : Type 0
Initializers =
    nest Value (sign mark.OpenBrace ∷ sign mark.OpenBrace ∷ number ∷ sign mark.CloseBrace ∷ sign mark.Comma ∷ sign mark.OpenBrace ∷ sign mark.Star ∷ name ∷ sign mark.CloseBrace
    ∷ sign mark.CloseBrace ∷ sign mark.Semicolon ∷ [])
    ≡ 1 ∷ 2 ∷ 2 ∷ 2 ∷ 1 ∷ 2 ∷ 3 ∷ 3 ∷ 2 ∷ 1 ∷ 0 ∷ []

-- [ 5 ] [ 5 ] uint8_t ;
abbrev pub Areas : Type 0
Areas =
    nest Other (sign mark.OpenBracket ∷ number ∷ sign mark.CloseBracket ∷ sign mark.OpenBracket ∷ number ∷ sign mark.CloseBracket ∷ word key.KwUint8t ∷ sign mark.Semicolon ∷ [])
    ≡ 1 ∷ 1 ∷ 1 ∷ 2 ∷ 2 ∷ 2 ∷ 2 ∷ 0 ∷ []

-- ref a [ 5 ] ix ( 5 ) , and so on
abbrev pub References : Type 0
References =
    nest Other (word key.KwRef ∷ name ∷ sign mark.OpenBracket ∷ number ∷ sign mark.CloseBracket ∷ word key.KwIx ∷ sign mark.OpenParen ∷ number ∷ sign mark.CloseParen ∷ sign mark.Comma ∷ [])
    ≡ 0 ∷ 0 ∷ 1 ∷ 1 ∷ 1 ∷ 1 ∷ 2 ∷ 2 ∷ 2 ∷ 0 ∷ []

-- if a { } else if a { } else if a { } else { } * a
abbrev pub Branches : Type 0
Branches =
    nest Start (word key.KwIf ∷ name ∷ sign mark.OpenBrace ∷ sign mark.CloseBrace ∷ word key.KwElse ∷ word key.KwIf ∷ name ∷ sign mark.OpenBrace ∷ sign mark.CloseBrace ∷ word key.KwElse
    ∷ word key.KwIf ∷ name ∷ sign mark.OpenBrace ∷ sign mark.CloseBrace ∷ word key.KwElse ∷ sign mark.OpenBrace ∷ sign mark.CloseBrace ∷ sign mark.Star ∷ name ∷ [])
    ≡ 0 ∷ 0 ∷ 1 ∷ 1 ∷ 0 ∷ 1 ∷ 1 ∷ 2 ∷ 2 ∷ 1 ∷ 2 ∷ 2 ∷ 3 ∷ 3 ∷ 2 ∷ 3 ∷ 3 ∷ 0 ∷ 0 ∷ []
