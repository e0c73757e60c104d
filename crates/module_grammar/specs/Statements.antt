-- The grammar of calls, statements and blocks, at each depth of nesting.
--     call = NAME "(" [ expression { "," expression } ] ")"
--     statement = "let" NAME "=" ( expression | call ) ";" | "alloc" NAME ":" area [ "=" init ] ";"
--               | "*" postfix "=" expression ";" | "copy" postfix "," postfix ";" | call ";" | if
--               | "map" counter block | "upto" counter "last" expression block | "downto" counter "first" expression block
--               | "forever" block | "break" ";" | "return" [ expression ] ";" | "assert" "(" expression ")" ";"
--               | ( "noalloc" | "nobreak" | "noreturn" ) block
--     counter = NAME ":" "ix" "(" NUMBER ")"
--     if = "if" expression block [ "else" ( block | if ) ]
--     block = "{" { statement } "}"
-- A bracket nests from itself to its partner, and an "if" behind "else" from itself to its statement's end. The "*" of a store
-- is no prefix operator, and nests nothing. A tree's place goes from its first token to its last; the block of an `else if` is
-- that one statement, with its place.
use Rattle.std.specs.Prelude.{ℕ, suc, List, [], ◌∷◌, ◌++◌, Option, Some, None}
use Rattle.iv_words.specs.declared.Span.{Span}
use Rattle.iv_words.specs.declared.Name.{Name}
use Rattle.ivory_lexer.specs.declared.Token.{Token}
use Rattle.ivory_lexer.specs.declared.Mark.TheVariants as mark
use Rattle.ivory_lexer.specs.declared.Key.TheVariants as key
use Rattle.ivory_tree.specs.declared.AreaText.{AreaText}
use Rattle.ivory_tree.specs.declared.Expr.{Expr}
use Rattle.ivory_tree.specs.declared.InitText.{InitText}
use Rattle.ivory_tree.specs.declared.CallText.{CallText}
use Rattle.ivory_tree.specs.declared.Stmt.{Stmt}
use Rattle.ivory_tree.specs.declared.StmtKind.{StmtKind}
use Rattle.ivory_tree.specs.declared.StmtKind.TheVariants as form
use Rattle.ivory_tree.specs.declared.Block.{Block}
use Rattle.reading.specs.Row.{Row, tokens}
use Rattle.reading.specs.Language.{Language, Terminal, Optional}
use Rattle.expression_grammar.specs.Tokens.{symbol, keyword, name_of, number_of, span_of}
use Rattle.module_grammar.specs.Pieces.{Expression, Postfix, Area, FirstValue, UpToParen}
use Rattle.module_grammar.specs.Trees as tree

pub data Symbol : Type 0 where
  call : Symbol
  -- the name of a loop, and how many values it takes at most
  counter : Symbol
  statement : Symbol
  -- what a statement is, without its place
  kind : Symbol
  conditional : Symbol
  -- what follows an `else`
  alternative : Symbol
  block : Symbol
  -- none or more
  many : Symbol → Symbol

abbrev pub Tree : Symbol → Type 0
Tree call = CallText
Tree counter = Name × ℕ
Tree statement = Stmt
Tree kind = StmtKind
Tree conditional = StmtKind
Tree alternative = Block
Tree block = Block
Tree (many s) = List (Tree s)

pub data Spells : (s : Symbol) → Tree s → ℕ → Row Token → Type 0 where
  none : {s : Symbol} {d : ℕ} → Spells (many s) [] d []
  more : {s : Symbol} {d : ℕ} {x : Tree s} {xs : List (Tree s)} {f g : Row Token} → Spells s x d f → Spells (many s) xs d g → Spells (many s) (x ∷ xs) d (f ++ g)
  called : {d : ℕ} {name : Name} {at to : Span} {args : List Expr} {e f g : Row Token} → Terminal d name_of name e → Terminal (suc d) (symbol mark.OpenParen) at f
      → UpToParen (suc d) (Expression (suc d)) (args, to) g → Spells call (tree.call name args (span_of (tokens (e ++ (f ++ g))))) d (e ++ (f ++ g))
  counted : {d n : ℕ} {name : Name} {colon ix at to : Span} {e f g h i j : Row Token} → Terminal d name_of name e → Terminal d (symbol mark.Colon) colon f
      → Terminal d (keyword key.KwIx) ix g → Terminal (suc d) (symbol mark.OpenParen) at h → Terminal (suc d) number_of n i → Terminal (suc d) (symbol mark.CloseParen) to j
      → Spells counter (name, n) d (e ++ (f ++ (g ++ (h ++ (i ++ j)))))
  placed : {d : ℕ} {k : StmtKind} {f : Row Token} → Spells kind k d f → Spells statement (tree.statement k (span_of (tokens f))) d f
  braces : {d : ℕ} {at to : Span} {stmts : List Stmt} {f g h : Row Token} → Terminal (suc d) (symbol mark.OpenBrace) at f → Spells (many statement) stmts (suc d) g
      → Terminal (suc d) (symbol mark.CloseBrace) to h → Spells block (tree.block stmts (span_of (tokens (f ++ (g ++ h))))) d (f ++ (g ++ h))
  -- values and areas
  let_expression : {d : ℕ} {name : Name} {head at to : Span} {x : Expr} {e f g h i : Row Token} → Terminal d (keyword key.KwLet) head e → Terminal d name_of name f
      → Terminal d (symbol mark.Assign) at g → Expression d x h → Terminal d (symbol mark.Semicolon) to i → Spells kind (form.Let name x) d (e ++ (f ++ (g ++ (h ++ i))))
  let_call : {d : ℕ} {name : Name} {head at to : Span} {c : CallText} {e f g h i : Row Token} → Terminal d (keyword key.KwLet) head e → Terminal d name_of name f
      → Terminal d (symbol mark.Assign) at g → Spells call c d h → Terminal d (symbol mark.Semicolon) to i → Spells kind (form.LetCall name c) d (e ++ (f ++ (g ++ (h ++ i))))
  alloc : {d : ℕ} {name : Name} {head at to : Span} {a : AreaText} (init : Option InitText) (i : Row Token) {e f g h j : Row Token} → Terminal d (keyword key.KwAlloc) head e
      → Terminal d name_of name f → Terminal d (symbol mark.Colon) at g → Area d a h → FirstValue d init i → Terminal d (symbol mark.Semicolon) to j
      → Spells kind (form.Alloc name a init) d (e ++ (f ++ (g ++ (h ++ (i ++ j)))))
  store : {d : ℕ} {head at to : Span} {target value : Expr} {e f g h i : Row Token} → Terminal d (symbol mark.Star) head e → Postfix d target f → Terminal d (symbol mark.Assign) at g
      → Expression d value h → Terminal d (symbol mark.Semicolon) to i → Spells kind (form.Store target value) d (e ++ (f ++ (g ++ (h ++ i))))
  copy : {d : ℕ} {head at to : Span} {target source : Expr} {e f g h i : Row Token} → Terminal d (keyword key.KwCopy) head e → Postfix d target f → Terminal d (symbol mark.Comma) at g
      → Postfix d source h → Terminal d (symbol mark.Semicolon) to i → Spells kind (form.Copy target source) d (e ++ (f ++ (g ++ (h ++ i))))
  call_alone : {d : ℕ} {to : Span} {c : CallText} {e f : Row Token} → Spells call c d e → Terminal d (symbol mark.Semicolon) to f → Spells kind (form.Call c) d (e ++ f)
  -- choices
  choice : {d : ℕ} {k : StmtKind} {f : Row Token} → Spells conditional k d f → Spells kind k d f
  if_alone : {d : ℕ} {head : Span} {x : Expr} {b : Block} {e f g : Row Token} → Terminal d (keyword key.KwIf) head e → Expression d x f → Spells block b d g
      → Spells conditional (form.If x b None) d (e ++ (f ++ g))
  if_else : {d : ℕ} {head at : Span} {x : Expr} {b c : Block} {e f g h i : Row Token} → Terminal d (keyword key.KwIf) head e → Expression d x f → Spells block b d g
      → Terminal d (keyword key.KwElse) at h → Spells alternative c d i → Spells conditional (form.If x b (Some c)) d (e ++ (f ++ (g ++ (h ++ i))))
  else_block : {d : ℕ} {b : Block} {f : Row Token} → Spells block b d f → Spells alternative b d f
  else_if : {d : ℕ} {k : StmtKind} {f : Row Token} → Spells conditional k (suc d) f → Spells alternative (tree.only k (span_of (tokens f))) d f
  -- loops
  map : {d : ℕ} {head : Span} {c : Name × ℕ} {b : Block} {e f g : Row Token} → Terminal d (keyword key.KwMap) head e → Spells counter c d f → Spells block b d g
      → Spells kind (form.Map c.0 c.1 b) d (e ++ (f ++ g))
  upto : {d : ℕ} {head bound : Span} {c : Name × ℕ} {x : Expr} {b : Block} {e f g h i : Row Token} → Terminal d (keyword key.KwUpto) head e → Spells counter c d f
      → Terminal d (keyword key.KwLast) bound g → Expression d x h → Spells block b d i → Spells kind (form.Upto c.0 c.1 x b) d (e ++ (f ++ (g ++ (h ++ i))))
  downto : {d : ℕ} {head bound : Span} {c : Name × ℕ} {x : Expr} {b : Block} {e f g h i : Row Token} → Terminal d (keyword key.KwDownto) head e → Spells counter c d f
      → Terminal d (keyword key.KwFirst) bound g → Expression d x h → Spells block b d i → Spells kind (form.Downto c.0 c.1 x b) d (e ++ (f ++ (g ++ (h ++ i))))
  forever : {d : ℕ} {head : Span} {b : Block} {e f : Row Token} → Terminal d (keyword key.KwForever) head e → Spells block b d f → Spells kind (form.Forever b) d (e ++ f)
  -- the rest
  break : {d : ℕ} {head to : Span} {e f : Row Token} → Terminal d (keyword key.KwBreak) head e → Terminal d (symbol mark.Semicolon) to f → Spells kind form.Break d (e ++ f)
  return : {d : ℕ} {head to : Span} (x : Option Expr) (f : Row Token) {e g : Row Token} → Terminal d (keyword key.KwReturn) head e → Optional (Expression d) x f
      → Terminal d (symbol mark.Semicolon) to g → Spells kind (form.Return x) d (e ++ (f ++ g))
  assert : {d : ℕ} {head at to end : Span} {x : Expr} {e f g h i : Row Token} → Terminal d (keyword key.KwAssert) head e → Terminal (suc d) (symbol mark.OpenParen) at f
      → Expression (suc d) x g → Terminal (suc d) (symbol mark.CloseParen) to h → Terminal d (symbol mark.Semicolon) end i → Spells kind (form.Assert x) d (e ++ (f ++ (g ++ (h ++ i))))
  noalloc : {d : ℕ} {head : Span} {b : Block} {e f : Row Token} → Terminal d (keyword key.KwNoalloc) head e → Spells block b d f → Spells kind (form.NoAlloc b) d (e ++ f)
  nobreak : {d : ℕ} {head : Span} {b : Block} {e f : Row Token} → Terminal d (keyword key.KwNobreak) head e → Spells block b d f → Spells kind (form.NoBreak b) d (e ++ f)
  noreturn : {d : ℕ} {head : Span} {b : Block} {e f : Row Token} → Terminal d (keyword key.KwNoreturn) head e → Spells block b d f → Spells kind (form.NoReturn b) d (e ++ f)

-- what a symbol spells at a depth
abbrev pub Rule : (s : Symbol) → ℕ → Language Token (Tree s)
Rule s d x row = Spells s x d row
