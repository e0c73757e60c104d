-- Where each node of a tree stands in the text.
use Rattle.iv_words.specs.declared.Span.{Span}
use Rattle.ivory_tree.specs.Syntax.{TypeSyntax, TruthType, IntType, IndexType, BitsType, RefType, AreaSyntax, StoredArea, ArrayArea, StructArea, ExprSyntax, Literal, Truth, Outcome, Variable, Cast, ToIndex, WrapIndex, MakeBits, Raw, SetField, Prefix, Binary, Field, Element, Cond, Bare, InitSyntax, One, Many, StmtSyntax, Let, LetCall, Alloc, Store, Copy, Call, If, IfElse, Map, Upto, Downto, Forever, Break, Return, Assert, NoAlloc, NoBreak, NoReturn, BlockSyntax, Braces, ItemSyntax, BitsData, Struct, Global, Import, Procedure}

abbrev pub type_span : TypeSyntax → Span
type_span (TruthType s) = s
type_span (IntType s kind) = s
type_span (IndexType s length) = s
type_span (BitsType s name) = s
type_span (RefType s constant region area) = s

abbrev pub area_span : AreaSyntax → Span
area_span (StoredArea s ty) = s
area_span (ArrayArea s length element) = s
area_span (StructArea s name) = s

abbrev pub expr_span : ExprSyntax → Span
expr_span (Literal s value) = s
expr_span (Truth s value) = s
expr_span (Outcome s) = s
expr_span (Variable s name) = s
expr_span (Cast s kind e) = s
expr_span (ToIndex s length e) = s
expr_span (WrapIndex s length e) = s
expr_span (MakeBits s name e) = s
expr_span (Raw s e) = s
expr_span (SetField s e field value) = s
expr_span (Prefix s op e) = s
expr_span (Binary s op at left right) = s
expr_span (Field s e field) = s
expr_span (Element s brackets e index) = s
expr_span (Cond s test first second) = s
expr_span (Bare s e) = s

abbrev pub init_span : InitSyntax → Span
init_span (One e) = expr_span e
init_span (Many s inits) = s

abbrev pub block_span : BlockSyntax → Span
block_span (Braces s stmts) = s

abbrev pub stmt_span : StmtSyntax → Span
stmt_span (Let s name value) = s
stmt_span (LetCall s name call) = s
stmt_span (Alloc s name area init) = s
stmt_span (Store s target value) = s
stmt_span (Copy s target source) = s
stmt_span (Call s call) = s
stmt_span (If s test first) = s
stmt_span (IfElse s test first second) = s
stmt_span (Map s name length body) = s
stmt_span (Upto s name length bound body) = s
stmt_span (Downto s name length bound body) = s
stmt_span (Forever s body) = s
stmt_span (Break s) = s
stmt_span (Return s value) = s
stmt_span (Assert s cond) = s
stmt_span (NoAlloc s body) = s
stmt_span (NoBreak s body) = s
stmt_span (NoReturn s body) = s

abbrev pub item_span : ItemSyntax → Span
item_span (BitsData item) = item.span
item_span (Struct item) = item.span
item_span (Global item) = item.span
item_span (Import header) = header.span
item_span (Procedure item) = item.span
