-- The forms of a stored type, a statement and an item by the kind of their first token.
use Rattle.std.specs.Prelude.{Option, Some, None}
use Rattle.ivory_lexer.specs.declared.TokenKind.{TokenKind}
use Rattle.ivory_lexer.specs.declared.TokenKind.TheVariants as kind
use Rattle.ivory_lexer.specs.declared.Mark.TheVariants as mark
use Rattle.ivory_lexer.specs.declared.Key.{Key}
use Rattle.ivory_lexer.specs.declared.Key.TheVariants as key
use Rattle.ivory_lexer.specs.declared.Token.{Token}
use Rattle.module_grammar.specs.declared.ValueForm.{ValueForm}
use Rattle.module_grammar.specs.declared.ValueForm.TheVariants as value
use Rattle.module_grammar.specs.declared.StatementForm.{StatementForm}
use Rattle.module_grammar.specs.declared.StatementForm.TheVariants as statement
use Rattle.module_grammar.specs.declared.ItemForm.{ItemForm}
use Rattle.module_grammar.specs.declared.ItemForm.TheVariants as item

-- ---- stored types: those by a keyword

abbrev pub value_form_of_key : Key → Option ValueForm
value_form_of_key key.KwBool = Some value.Truth
value_form_of_key key.KwIx = Some value.Index
value_form_of_key key.KwUint8t = Some value.Whole
value_form_of_key key.KwUint16t = Some value.Whole
value_form_of_key key.KwUint32t = Some value.Whole
value_form_of_key key.KwUint64t = Some value.Whole
value_form_of_key key.KwInt8t = Some value.Whole
value_form_of_key key.KwInt16t = Some value.Whole
value_form_of_key key.KwInt32t = Some value.Whole
value_form_of_key key.KwInt64t = Some value.Whole
value_form_of_key _ = None

abbrev pub value_form : TokenKind → Option ValueForm
value_form (kind.Key k) = value_form_of_key k
value_form _ = None

abbrev pub value_form_of : Token → Option ValueForm
value_form_of t = value_form t.kind

-- ---- statements: all but a call

abbrev pub statement_form_of_key : Key → Option StatementForm
statement_form_of_key key.KwLet = Some statement.Let
statement_form_of_key key.KwAlloc = Some statement.Alloc
statement_form_of_key key.KwCopy = Some statement.Copy
statement_form_of_key key.KwIf = Some statement.If
statement_form_of_key key.KwForever = Some statement.Forever
statement_form_of_key key.KwMap = Some statement.Map
statement_form_of_key key.KwUpto = Some statement.Upto
statement_form_of_key key.KwDownto = Some statement.Downto
statement_form_of_key key.KwBreak = Some statement.Break
statement_form_of_key key.KwReturn = Some statement.Return
statement_form_of_key key.KwAssert = Some statement.Assert
statement_form_of_key key.KwNoalloc = Some statement.NoAlloc
statement_form_of_key key.KwNobreak = Some statement.NoBreak
statement_form_of_key key.KwNoreturn = Some statement.NoReturn
statement_form_of_key _ = None

abbrev pub statement_form : TokenKind → Option StatementForm
statement_form (kind.Key k) = statement_form_of_key k
statement_form (kind.Mark mark.Star) = Some statement.Store
statement_form (kind.Mark m) = None
statement_form (kind.Name w) = None
statement_form (kind.Number n) = None

abbrev pub statement_form_of : Token → Option StatementForm
statement_form_of t = statement_form t.kind

-- ---- items: all but a procedure

abbrev pub item_form_of_key : Key → Option ItemForm
item_form_of_key key.KwBitdata = Some item.Bits
item_form_of_key key.KwStruct = Some item.Struct
item_form_of_key key.KwConst = Some item.Area
item_form_of_key key.KwArea = Some item.Area
item_form_of_key key.KwImport = Some item.Import
item_form_of_key _ = None

abbrev pub item_form : TokenKind → Option ItemForm
item_form (kind.Key k) = item_form_of_key k
item_form _ = None

abbrev pub item_form_of : Token → Option ItemForm
item_form_of t = item_form t.kind
