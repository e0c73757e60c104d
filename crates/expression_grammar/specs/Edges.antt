-- With which tokens an expression begins, and with which one might go on behind its end.
use Rattle.std.specs.Prelude.{Bool, true, cond, is_some}
use Rattle.ivory_lexer.specs.declared.Token.{Token}
use Rattle.ivory_lexer.specs.declared.Mark.TheVariants as mark
use Rattle.expression_grammar.specs.Tokens.{is_mark}
use Rattle.expression_grammar.specs.Operators.{binary_of, is_plain_prefix}
use Rattle.expression_grammar.specs.Forms.{form_of}
use Rattle.expression_grammar.specs.Reader.{begins_step}

-- a primary, and so a postfix: a number or its sign, a name, one of some keywords, or `(`
abbrev pub begins_postfix : Token → Bool
begins_postfix t = cond (is_some (form_of t)) true (is_mark mark.OpenParen t)

-- with a prefix operator before it; `-` is a number's sign too
abbrev pub begins_expression : Token → Bool
begins_expression t = cond (is_plain_prefix t) true (begins_postfix t)

-- a field or an index, an operator, or `?`
abbrev pub goes_on : Token → Bool
goes_on t = cond (is_mark mark.Question t) true (cond (is_some (binary_of t.kind)) true (begins_step t))
