-- The tokens that rules speak of: by their mark or keyword, or by the value that they have.
use Rattle.std.specs.Prelude.{ℕ, Bool, true, false, List, Option, Some, None, is_some, length, slice_get, ◌-◌}
use Rattle.iv_words.specs.declared.Span.{Span}
use Rattle.iv_words.specs.declared.Name.{Name}
use Rattle.iv_words.specs.declared.IntKind.{IntKind}
use Rattle.iv_words.specs.declared.IntKind.TheVariants as int
use Rattle.ivory_lexer.specs.declared.Token.{Token}
use Rattle.ivory_lexer.specs.declared.TokenKind.{TokenKind}
use Rattle.ivory_lexer.specs.declared.TokenKind.TheVariants as kind
use Rattle.ivory_lexer.specs.declared.Mark.{Mark}
use Rattle.ivory_lexer.specs.declared.Mark.TheVariants as mark
use Rattle.ivory_lexer.specs.declared.Key.{Key}
use Rattle.ivory_lexer.specs.declared.Key.TheVariants as key
use Rattle.ivory_lexer.specs.Same.{same_key, same_mark}
use Rattle.ivory_tree.specs.Syntax.{Word}
use Rattle.reading.specs.Row.{Signs}

-- a token's span where it passes
abbrev pub span_where : Bool → Token → Option Span
span_where true t = Some t.span
span_where false t = None

-- ---- a token of one mark or keyword

abbrev pub is_mark_kind : Mark → TokenKind → Bool
is_mark_kind wanted (kind.Mark m) = same_mark wanted m
is_mark_kind wanted _ = false

abbrev pub is_key_kind : Key → TokenKind → Bool
is_key_kind wanted (kind.Key k) = same_key wanted k
is_key_kind wanted _ = false

abbrev pub is_mark : Mark → Token → Bool
is_mark wanted t = is_mark_kind wanted t.kind

abbrev pub is_key : Key → Token → Bool
is_key wanted t = is_key_kind wanted t.kind

-- where it stands
abbrev pub symbol : Mark → Token → Option Span
symbol wanted t = span_where (is_mark wanted t) t

abbrev pub keyword : Key → Token → Option Span
keyword wanted t = span_where (is_key wanted t) t

-- ---- tokens with a value

abbrev pub word_of_kind : TokenKind → Option Word
word_of_kind (kind.Name w) = Some w
word_of_kind _ = None

abbrev pub word_of : Token → Option Word
word_of t = word_of_kind t.kind

-- a name with its place
abbrev pub named : Option Word → Span → Option Name
named (Some w) s = Some (record { text = w; span = s })
named None s = None

abbrev pub name_of : Token → Option Name
name_of t = named (word_of t) t.span

abbrev pub number_of_kind : TokenKind → Option ℕ
number_of_kind (kind.Number n) = Some n
number_of_kind _ = None

abbrev pub number_of : Token → Option ℕ
number_of t = number_of_kind t.kind

abbrev pub truth_of_kind : TokenKind → Option Bool
truth_of_kind (kind.Key key.KwTrue) = Some true
truth_of_kind (kind.Key key.KwFalse) = Some false
truth_of_kind _ = None

abbrev pub truth_of : Token → Option Bool
truth_of t = truth_of_kind t.kind

-- the kinds of whole numbers
abbrev pub int_of_kind : TokenKind → Option IntKind
int_of_kind (kind.Key key.KwUint8t) = Some int.U8
int_of_kind (kind.Key key.KwUint16t) = Some int.U16
int_of_kind (kind.Key key.KwUint32t) = Some int.U32
int_of_kind (kind.Key key.KwUint64t) = Some int.U64
int_of_kind (kind.Key key.KwInt8t) = Some int.I8
int_of_kind (kind.Key key.KwInt16t) = Some int.I16
int_of_kind (kind.Key key.KwInt32t) = Some int.I32
int_of_kind (kind.Key key.KwInt64t) = Some int.I64
int_of_kind _ = None

abbrev pub int_of : Token → Option IntKind
int_of t = int_of_kind t.kind

abbrev pub is_name : Token → Bool
is_name t = is_some (word_of t)

abbrev pub is_number : Token → Bool
is_number t = is_some (number_of t)

-- a `-` before a number is the number's sign
abbrev pub signs : Signs Token
signs = record { sign = is_mark mark.Minus; number = is_number }

-- ---- places

abbrev pub start_of : Option Token → ℕ
start_of None = 0
start_of (Some t) = t.span.start

abbrev pub end_of : Option Token → ℕ
end_of None = 0
end_of (Some t) = t.span.end

-- from the first of these tokens to the last
unfoldable pub span_of : List Token → Span
span_of ts = record { start = start_of (slice_get ts 0); end = end_of (slice_get ts (length ts - 1)) }
