-- The grammar of the parts of items, at each depth of nesting.
--     bit field = NAME ":" ( NUMBER | "bool" )
--     struct field = NAME ":" area ";"
--     parameter = NAME ":" type
--     contract = ( "requires" | "ensures" ) "(" expression ")"
-- A field that is declared `bool` has one bit. A "(" nests from itself to its partner. A part's place goes from its first
-- token to its last.
use Rattle.std.specs.Prelude.{ℕ, suc, Bool, ◌++◌}
use Rattle.iv_words.specs.declared.Span.{Span}
use Rattle.iv_words.specs.declared.Name.{Name}
use Rattle.ivory_lexer.specs.declared.Token.{Token}
use Rattle.ivory_lexer.specs.declared.Mark.TheVariants as mark
use Rattle.ivory_tree.specs.declared.TypeText.{TypeText}
use Rattle.ivory_tree.specs.declared.AreaText.{AreaText}
use Rattle.ivory_tree.specs.declared.Expr.{Expr}
use Rattle.ivory_tree.specs.declared.BitField.{BitField}
use Rattle.ivory_tree.specs.declared.AreaField.{AreaField}
use Rattle.ivory_tree.specs.declared.Param.{Param}
use Rattle.ivory_tree.specs.declared.Contract.{Contract}
use Rattle.reading.specs.Row.{Row, tokens}
use Rattle.reading.specs.Language.{Language, Terminal}
use Rattle.expression_grammar.specs.Tokens.{symbol, name_of, span_of}
use Rattle.module_grammar.specs.Tokens.{width_of, before_of}
use Rattle.module_grammar.specs.Pieces.{Expression, Type_, Area}
use Rattle.module_grammar.specs.Trees as tree

pub data Symbol : Type 0 where
  bit_field : Symbol
  struct_field : Symbol
  parameter : Symbol
  contract : Symbol

abbrev pub Tree : Symbol → Type 0
Tree bit_field = BitField
Tree struct_field = AreaField
Tree parameter = Param
Tree contract = Contract

pub data Spells : (s : Symbol) → Tree s → ℕ → Row Token → Type 0 where
  bit : {d : ℕ} {name : Name} {at : Span} {width : ℕ × Bool} {f g h : Row Token} → Terminal d name_of name f → Terminal d (symbol mark.Colon) at g → Terminal d width_of width h
      → Spells bit_field (tree.bit_field name width (span_of (tokens (f ++ (g ++ h))))) d (f ++ (g ++ h))
  member : {d : ℕ} {name : Name} {at to : Span} {a : AreaText} {f g h i : Row Token} → Terminal d name_of name f → Terminal d (symbol mark.Colon) at g → Area d a h
      → Terminal d (symbol mark.Semicolon) to i → Spells struct_field (tree.struct_field name a (span_of (tokens (f ++ (g ++ (h ++ i)))))) d (f ++ (g ++ (h ++ i)))
  taken : {d : ℕ} {name : Name} {at : Span} {t : TypeText} {f g h : Row Token} → Terminal d name_of name f → Terminal d (symbol mark.Colon) at g → Type_ d t h
      → Spells parameter (tree.parameter name t (span_of (tokens (f ++ (g ++ h))))) d (f ++ (g ++ h))
  condition : {d : ℕ} {before : Bool} {at to : Span} {x : Expr} {e f g h : Row Token} → Terminal d before_of before e → Terminal (suc d) (symbol mark.OpenParen) at f
      → Expression (suc d) x g → Terminal (suc d) (symbol mark.CloseParen) to h
      → Spells contract (tree.contract before x (span_of (tokens (e ++ (f ++ (g ++ h)))))) d (e ++ (f ++ (g ++ h)))

-- what a symbol spells at a depth
abbrev pub Rule : (s : Symbol) → ℕ → Language Token (Tree s)
Rule s d x row = Spells s x d row
