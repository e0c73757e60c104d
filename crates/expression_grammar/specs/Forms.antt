-- The forms of a primary expression by the kind of its first token.
use Rattle.std.specs.Prelude.{Option, Some, None}
use Rattle.ivory_lexer.specs.declared.TokenKind.{TokenKind}
use Rattle.ivory_lexer.specs.declared.TokenKind.TheVariants as kind
use Rattle.ivory_lexer.specs.declared.Mark.TheVariants as mark
use Rattle.ivory_lexer.specs.declared.Key.{Key}
use Rattle.ivory_lexer.specs.declared.Key.TheVariants as key
use Rattle.ivory_lexer.specs.declared.Token.{Token}
use Rattle.expression_grammar.specs.declared.PrimaryForm.{PrimaryForm}
use Rattle.expression_grammar.specs.declared.PrimaryForm.TheVariants as form

abbrev pub form_of_key : Key → Option PrimaryForm
form_of_key key.KwTrue = Some form.Truth
form_of_key key.KwFalse = Some form.Truth
form_of_key key.KwResult = Some form.Outcome
form_of_key key.KwUint8t = Some form.Cast
form_of_key key.KwUint16t = Some form.Cast
form_of_key key.KwUint32t = Some form.Cast
form_of_key key.KwUint64t = Some form.Cast
form_of_key key.KwInt8t = Some form.Cast
form_of_key key.KwInt16t = Some form.Cast
form_of_key key.KwInt32t = Some form.Cast
form_of_key key.KwInt64t = Some form.Cast
form_of_key key.KwToix = Some form.ToIndex
form_of_key key.KwWrapix = Some form.WrapIndex
form_of_key key.KwBits = Some form.MakeBits
form_of_key key.KwRaw = Some form.Raw
form_of_key key.KwSet = Some form.SetField
form_of_key _ = None

abbrev pub primary_form : TokenKind → Option PrimaryForm
primary_form (kind.Name w) = Some form.Variable
primary_form (kind.Number n) = Some form.Number
primary_form (kind.Key k) = form_of_key k
primary_form (kind.Mark mark.Minus) = Some form.Negative
primary_form (kind.Mark m) = None

abbrev pub form_of : Token → Option PrimaryForm
form_of t = primary_form t.kind
