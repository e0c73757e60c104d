-- The grammar of items, at each depth of nesting.
--     header = NAME "(" [ parameter { "," parameter } ] ")" [ "->" type ]
--     item = "bitdata" NAME ":" INT "{" bit field { "," bit field } "}" | "struct" NAME "{" struct field { struct field } "}"
--          | [ "const" ] "area" NAME ":" area [ "=" init ] ";" | "import" header ";" | [ "export" ] "proc" header { contract } block
-- A bracket nests from itself to its partner. A tree's place goes from its first token to its last; the header of an import
-- has the place of its item.
use Rattle.std.specs.Prelude.{ℕ, suc, List, ◌++◌, Option, is_some}
use Rattle.iv_words.specs.declared.Span.{Span}
use Rattle.iv_words.specs.declared.Name.{Name}
use Rattle.iv_words.specs.declared.IntKind.{IntKind}
use Rattle.ivory_lexer.specs.declared.Token.{Token}
use Rattle.ivory_lexer.specs.declared.Mark.TheVariants as mark
use Rattle.ivory_lexer.specs.declared.Key.TheVariants as key
use Rattle.ivory_tree.specs.declared.TypeText.{TypeText}
use Rattle.ivory_tree.specs.declared.AreaText.{AreaText}
use Rattle.ivory_tree.specs.declared.InitText.{InitText}
use Rattle.ivory_tree.specs.declared.Block.{Block}
use Rattle.ivory_tree.specs.declared.BitField.{BitField}
use Rattle.ivory_tree.specs.declared.AreaField.{AreaField}
use Rattle.ivory_tree.specs.declared.Param.{Param}
use Rattle.ivory_tree.specs.declared.Header.{Header}
use Rattle.ivory_tree.specs.declared.Contract.{Contract}
use Rattle.ivory_tree.specs.declared.Item.{Item}
use Rattle.reading.specs.Row.{Row, tokens}
use Rattle.reading.specs.Language.{Language, Terminal, After, Optional, Many, AtLeastOne, Separated}
use Rattle.expression_grammar.specs.Tokens.{symbol, keyword, name_of, int_of, span_of}
use Rattle.module_grammar.specs.Pieces.{Type_, Area, FirstValue, UpToParen}
use Rattle.module_grammar.specs.Statements as statements
use Rattle.module_grammar.specs.Parts as parts
use Rattle.module_grammar.specs.Trees as tree

pub data Symbol : Type 0 where
  header : Symbol
  item : Symbol

abbrev pub Tree : Symbol → Type 0
Tree header = Header
Tree item = Item

pub data Spells : (s : Symbol) → Tree s → ℕ → Row Token → Type 0 where
  signature : {d : ℕ} {name : Name} {at to : Span} {params : List Param} (result : Option TypeText) (h : Row Token) {e f g : Row Token} → Terminal d name_of name e
      → Terminal (suc d) (symbol mark.OpenParen) at f → UpToParen (suc d) (parts.Rule parts.parameter (suc d)) (params, to) g
      → Optional (After (Terminal d (symbol mark.Arrow)) (Type_ d)) result h
      → Spells header (tree.header name params result (span_of (tokens (e ++ (f ++ (g ++ h)))))) d (e ++ (f ++ (g ++ h)))
  bits : {d : ℕ} {name : Name} {word : IntKind} {head colon at to : Span} {fields : List BitField} {e f g h i j k : Row Token} → Terminal d (keyword key.KwBitdata) head e
      → Terminal d name_of name f → Terminal d (symbol mark.Colon) colon g → Terminal d int_of word h → Terminal (suc d) (symbol mark.OpenBrace) at i
      → Separated (Terminal (suc d) (symbol mark.Comma)) (parts.Rule parts.bit_field (suc d)) fields j → Terminal (suc d) (symbol mark.CloseBrace) to k
      → Spells item (tree.bits name word fields (span_of (tokens (e ++ (f ++ (g ++ (h ++ (i ++ (j ++ k))))))))) d (e ++ (f ++ (g ++ (h ++ (i ++ (j ++ k))))))
  structure : {d : ℕ} {name : Name} {head at to : Span} {fields : List AreaField} {e f g h i : Row Token} → Terminal d (keyword key.KwStruct) head e → Terminal d name_of name f
      → Terminal (suc d) (symbol mark.OpenBrace) at g → AtLeastOne (parts.Rule parts.struct_field (suc d)) fields h → Terminal (suc d) (symbol mark.CloseBrace) to i
      → Spells item (tree.structure name fields (span_of (tokens (e ++ (f ++ (g ++ (h ++ i))))))) d (e ++ (f ++ (g ++ (h ++ i))))
  area : {d : ℕ} (constant : Option Span) (e : Row Token) {name : Name} {head colon to : Span} {a : AreaText} (init : Option InitText) (j : Row Token) {f g h i k : Row Token}
      → Optional (Terminal d (keyword key.KwConst)) constant e → Terminal d (keyword key.KwArea) head f → Terminal d name_of name g → Terminal d (symbol mark.Colon) colon h
      → Area d a i → FirstValue d init j → Terminal d (symbol mark.Semicolon) to k
      → Spells item (tree.global (is_some constant) name a init (span_of (tokens (e ++ (f ++ (g ++ (h ++ (i ++ (j ++ k))))))))) d (e ++ (f ++ (g ++ (h ++ (i ++ (j ++ k))))))
  import : {d : ℕ} {head to : Span} {x : Header} {e f g : Row Token} → Terminal d (keyword key.KwImport) head e → Spells header x d f → Terminal d (symbol mark.Semicolon) to g
      → Spells item (tree.import x (span_of (tokens (e ++ (f ++ g))))) d (e ++ (f ++ g))
  procedure : {d : ℕ} (exported : Option Span) (e : Row Token) {head : Span} {x : Header} (contracts : List Contract) (h : Row Token) {body : Block} {f g i : Row Token}
      → Optional (Terminal d (keyword key.KwExport)) exported e → Terminal d (keyword key.KwProc) head f → Spells header x d g → Many (parts.Rule parts.contract d) contracts h
      → statements.Rule statements.block d body i
      → Spells item (tree.procedure (is_some exported) x contracts body (span_of (tokens (e ++ (f ++ (g ++ (h ++ i))))))) d (e ++ (f ++ (g ++ (h ++ i))))

-- what a symbol spells at a depth
abbrev pub Rule : (s : Symbol) → ℕ → Language Token (Tree s)
Rule s d x row = Spells s x d row
