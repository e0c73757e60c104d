-- How calls, statements and blocks are read. The number is that of the levels that are left to nest; what nests is read by the
-- readers of one level deeper, if there is one.
use Rattle.std.specs.Prelude.{ℕ, zero, suc, Bool, true, List, Option, Some, None, cond, is_some}
use Rattle.std.specs.Option.{option_map}
use Rattle.iv_words.specs.declared.Span.{Span}
use Rattle.iv_words.specs.declared.Name.{Name}
use Rattle.ivory_lexer.specs.declared.Token.{Token}
use Rattle.ivory_lexer.specs.declared.Mark.TheVariants as mark
use Rattle.ivory_lexer.specs.declared.Key.{Key}
use Rattle.ivory_lexer.specs.declared.Key.TheVariants as key
use Rattle.ivory_tree.specs.declared.Expr.{Expr}
use Rattle.ivory_tree.specs.declared.CallText.{CallText}
use Rattle.ivory_tree.specs.declared.Stmt.{Stmt}
use Rattle.ivory_tree.specs.declared.StmtKind.{StmtKind}
use Rattle.ivory_tree.specs.declared.StmtKind.TheVariants as form
use Rattle.ivory_tree.specs.declared.Block.{Block}
use Rattle.reading.specs.Reader.{Reader, ◌>>=◌, ◌<$>◌, accept, after, before, choose, choose_pair, dispatch, optional, many, closed, nested, enclosed, below}
use Rattle.expression_grammar.specs.Tokens.{symbol, keyword, is_mark, is_key, is_name, name_of}
use Rattle.expression_grammar.specs.Reader.{mark_reader, key_reader, within, postfix_reader, expression}
use Rattle.module_grammar.specs.declared.StatementForm.{StatementForm}
use Rattle.module_grammar.specs.declared.StatementForm.TheVariants as statement_form
use Rattle.module_grammar.specs.Forms.{statement_form_of}
use Rattle.module_grammar.specs.TypeReader.{placed, number_within, area}
use Rattle.module_grammar.specs.InitReader.{first_value}
use Rattle.module_grammar.specs.Trees as tree

abbrev pub semicolon : Reader Token Span
semicolon = mark_reader mark.Semicolon

abbrev pub postfix : ℕ → Reader Token Expr
postfix k = postfix_reader (below expression k)

-- ---- calls

-- none or more, with commas, up to a `)`
abbrev pub up_to_paren : {A : Type 0} → Reader Token A → Reader Token (List A × Span)
up_to_paren p = closed (is_mark mark.CloseParen) (mark_reader mark.CloseParen) (is_mark mark.Comma) (mark_reader mark.Comma) p

-- those between parentheses
abbrev pub listed : {A : Type 0} → Option (Reader Token A) → Reader Token (List A)
listed {A} inner = (λ (p : List A × Span). p.0) <$> nested (symbol mark.OpenParen) (option_map (λ p _. up_to_paren p) inner)

unfoldable pub call : ℕ → Reader Token CallText
call k = placed (accept name_of >>= λ name. tree.call name <$> listed (below expression k))

-- ---- statements without blocks

abbrev pub let_value : ℕ → Name → Reader Token StmtKind
let_value k name = choose_pair is_name (is_mark mark.OpenParen) (form.LetCall name <$> call k) (form.Let name <$> expression k)

abbrev pub let_reader : ℕ → Reader Token StmtKind
let_reader k = after (key_reader key.KwLet) (accept name_of >>= λ name. after (mark_reader mark.Assign) (before (let_value k name) semicolon))

abbrev pub alloc_reader : ℕ → Reader Token StmtKind
alloc_reader k = after (key_reader key.KwAlloc) (accept name_of >>= λ name. after (mark_reader mark.Colon)
    (area k >>= λ a. before (form.Alloc name a <$> first_value k) semicolon))

abbrev pub store_reader : ℕ → Reader Token StmtKind
store_reader k = after (mark_reader mark.Star) (postfix k >>= λ target. after (mark_reader mark.Assign) (before (form.Store target <$> expression k) semicolon))

abbrev pub copy_reader : ℕ → Reader Token StmtKind
copy_reader k = after (key_reader key.KwCopy) (postfix k >>= λ target. after (mark_reader mark.Comma) (before (form.Copy target <$> postfix k) semicolon))

abbrev pub break_reader : Reader Token StmtKind
break_reader = after (key_reader key.KwBreak) ((λ _. form.Break) <$> semicolon)

abbrev pub return_reader : ℕ → Reader Token StmtKind
return_reader k = after (key_reader key.KwReturn)
    (choose (is_mark mark.Semicolon) ((λ _. form.Return None) <$> semicolon) (before ((λ x. form.Return (Some x)) <$> expression k) semicolon))

abbrev pub assert_reader : ℕ → Reader Token StmtKind
assert_reader k = after (key_reader key.KwAssert) (before (form.Assert <$> within (below expression k)) semicolon)

abbrev pub call_reader : ℕ → Reader Token StmtKind
call_reader k = before (form.Call <$> call k) semicolon

-- ---- blocks, and what has them

abbrev pub begins_statement : Token → Bool
begins_statement t = cond (is_name t) true (is_some (statement_form_of t))

unfoldable pub block_reader : Option (Reader Token Stmt) → Reader Token Block
block_reader inner = placed (tree.block <$> enclosed (symbol mark.OpenBrace) (symbol mark.CloseBrace) (λ stmts _. stmts) (option_map (many begins_statement) inner))

-- a keyword and a block
abbrev pub narrowing_reader : Key → (Block → StmtKind) → Reader Token Block → Reader Token StmtKind
narrowing_reader k make body = after (key_reader k) (make <$> body)

-- a name and how many values it takes
abbrev pub counter_reader : ℕ → Reader Token (Name × ℕ)
counter_reader k = accept name_of >>= λ name. after (mark_reader mark.Colon) (after (key_reader key.KwIx) ((λ n. (name, n)) <$> number_within k))

abbrev pub map_reader : ℕ → Reader Token Block → Reader Token StmtKind
map_reader k body = after (key_reader key.KwMap) (counter_reader k >>= λ c. form.Map c.0 c.1 <$> body)

-- with a bound behind this keyword
abbrev pub bounded_reader : ℕ → Key → Key → (Name × ℕ → Expr → Block → StmtKind) → Reader Token Block → Reader Token StmtKind
bounded_reader k head bound make body = after (key_reader head) (counter_reader k >>= λ c. after (key_reader bound) (expression k >>= λ x. make c x <$> body))

-- ---- choices

-- an `if` behind an `else`, of which `deeper` reads what follows the `if`
abbrev pub else_if_reader : Option (Reader Token StmtKind) → Reader Token Block
else_if_reader deeper = placed (tree.only <$> nested (keyword key.KwIf) (option_map (λ rest _. rest) deeper))

abbrev pub alternative_reader : Reader Token Block → Option (Reader Token StmtKind) → Reader Token Block
alternative_reader body deeper = choose (is_key key.KwIf) (else_if_reader deeper) body

-- what follows an `if`
unfoldable pub if_reader : ℕ → Reader Token Block → Option (Reader Token StmtKind) → Reader Token StmtKind
if_reader k body deeper = expression k >>= λ x. body >>= λ b. form.If x b <$> optional (is_key key.KwElse) (after (key_reader key.KwElse) (alternative_reader body deeper))

-- ---- statements

-- over the reader of a block, and that of what follows an `if`
abbrev pub form_reader : ℕ → Reader Token Block → Reader Token StmtKind → StatementForm → Reader Token StmtKind
form_reader k body rest statement_form.Let = let_reader k
form_reader k body rest statement_form.Alloc = alloc_reader k
form_reader k body rest statement_form.Store = store_reader k
form_reader k body rest statement_form.Copy = copy_reader k
form_reader k body rest statement_form.If = after (key_reader key.KwIf) rest
form_reader k body rest statement_form.Forever = narrowing_reader key.KwForever form.Forever body
form_reader k body rest statement_form.Map = map_reader k body
form_reader k body rest statement_form.Upto = bounded_reader k key.KwUpto key.KwLast (λ c. form.Upto c.0 c.1) body
form_reader k body rest statement_form.Downto = bounded_reader k key.KwDownto key.KwFirst (λ c. form.Downto c.0 c.1) body
form_reader k body rest statement_form.Break = break_reader
form_reader k body rest statement_form.Return = return_reader k
form_reader k body rest statement_form.Assert = assert_reader k
form_reader k body rest statement_form.NoAlloc = narrowing_reader key.KwNoalloc form.NoAlloc body
form_reader k body rest statement_form.NoBreak = narrowing_reader key.KwNobreak form.NoBreak body
form_reader k body rest statement_form.NoReturn = narrowing_reader key.KwNoreturn form.NoReturn body

unfoldable pub statement_reader : ℕ → Reader Token Block → Reader Token StmtKind → Reader Token Stmt
statement_reader k body rest = placed (tree.statement <$> dispatch statement_form_of (form_reader k body rest) (call_reader k))

-- ---- by the number of levels that are left to nest

pub record Readers : Type 0 where
  pub statement : Reader Token Stmt
  -- what follows an `if`
  pub rest : Reader Token StmtKind

abbrev pub with_rest : ℕ → Reader Token Block → Reader Token StmtKind → Readers
with_rest k body rest = record { statement = statement_reader k body rest; rest = rest }

abbrev pub with_deeper : ℕ → Option (Reader Token Stmt) → Option (Reader Token StmtKind) → Readers
with_deeper k inner deeper = with_rest k (block_reader inner) (if_reader k (block_reader inner) deeper)

unfoldable pub readers : ℕ → Readers
readers zero = with_deeper zero None None
readers (suc k) = with_deeper (suc k) (Some (readers k).statement) (Some (readers k).rest)

abbrev pub statement : ℕ → Reader Token Stmt
statement k = (readers k).statement

abbrev pub if_rest : ℕ → Reader Token StmtKind
if_rest k = (readers k).rest

abbrev pub block : ℕ → Reader Token Block
block k = block_reader (below statement k)
