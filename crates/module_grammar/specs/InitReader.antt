-- How initializers are read. The number is that of the levels that are left to nest.
use Rattle.std.specs.Prelude.{ℕ, zero, suc, List, Option, Some, None}
use Rattle.std.specs.Option.{option_map}
use Rattle.iv_words.specs.declared.Span.{Span}
use Rattle.ivory_lexer.specs.declared.Token.{Token}
use Rattle.ivory_lexer.specs.declared.Mark.TheVariants as mark
use Rattle.ivory_tree.specs.declared.InitText.{InitText}
use Rattle.ivory_tree.specs.declared.InitText.TheVariants as form
use Rattle.reading.specs.Reader.{Reader, ◌<$>◌, after, choose, optional, closed, nested}
use Rattle.expression_grammar.specs.Tokens.{symbol, is_mark}
use Rattle.expression_grammar.specs.Reader.{mark_reader, expression}
use Rattle.module_grammar.specs.TypeReader.{placed}
use Rattle.module_grammar.specs.Trees as tree

-- none or more, with commas, up to a `}`
abbrev pub up_to_brace : {A : Type 0} → Reader Token A → Reader Token (List A × Span)
up_to_brace p = closed (is_mark mark.CloseBrace) (mark_reader mark.CloseBrace) (is_mark mark.Comma) (mark_reader mark.Comma) p

abbrev pub braced_reader : Option (Reader Token InitText) → Reader Token InitText
braced_reader inner = placed ((λ (p : List InitText × Span). tree.braced p.0) <$> nested (symbol mark.OpenBrace) (option_map (λ p _. up_to_brace p) inner))

abbrev pub init_reader : ℕ → Option (Reader Token InitText) → Reader Token InitText
init_reader k inner = choose (is_mark mark.OpenBrace) (braced_reader inner) (form.One <$> expression k)

unfoldable pub init : ℕ → Reader Token InitText
init zero = init_reader zero None
init (suc k) = init_reader (suc k) (Some (init k))

-- [ "=" init ]
abbrev pub first_value : ℕ → Reader Token (Option InitText)
first_value k = optional (is_mark mark.Assign) (after (mark_reader mark.Assign) (init k))
