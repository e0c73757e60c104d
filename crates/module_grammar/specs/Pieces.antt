-- Pieces that several rules have, at each depth of nesting.
use Rattle.std.specs.Prelude.{ℕ, List, Option}
use Rattle.iv_words.specs.declared.Span.{Span}
use Rattle.ivory_lexer.specs.declared.Token.{Token}
use Rattle.ivory_lexer.specs.declared.Mark.TheVariants as mark
use Rattle.ivory_tree.specs.declared.AreaText.{AreaText}
use Rattle.ivory_tree.specs.declared.Expr.{Expr}
use Rattle.ivory_tree.specs.declared.InitText.{InitText}
use Rattle.ivory_tree.specs.declared.TypeText.{TypeText}
use Rattle.reading.specs.Language.{Language, Terminal, After, Optional, Closed}
use Rattle.expression_grammar.specs.Tokens.{symbol}
use Rattle.expression_grammar.specs.Grammar as expressions
use Rattle.module_grammar.specs.Types as types
use Rattle.module_grammar.specs.Inits as inits

abbrev pub Expression : ℕ → Language Token Expr
Expression d = expressions.Rule expressions.expression d

abbrev pub Postfix : ℕ → Language Token Expr
Postfix d = expressions.Rule expressions.postfix d

abbrev pub Type_ : ℕ → Language Token TypeText
Type_ d = types.Rule types.type d

abbrev pub Area : ℕ → Language Token AreaText
Area d = types.Rule types.area d

abbrev pub Init : ℕ → Language Token InitText
Init d = inits.Rule inits.init d

-- [ "=" init ]
abbrev pub FirstValue : ℕ → Language Token (Option InitText)
FirstValue d = Optional (After (Terminal d (symbol mark.Assign)) (Init d))

-- none or more, with commas, up to a `)`
abbrev pub UpToParen : {A : Type 0} → ℕ → Language Token A → Language Token (List A × Span)
UpToParen d R = Closed (Terminal d (symbol mark.Comma)) R (Terminal d (symbol mark.CloseParen))
