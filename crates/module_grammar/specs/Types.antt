-- The grammar of types and areas: which rows of tokens spell which tree, at each depth of nesting.
--     value = "bool" | INT | "ix" "(" NUMBER ")" | NAME
--     type = value | [ "const" ] "ref" ( "global" | NAME ) area
--     area = value | "[" NUMBER "]" area | "struct" NAME
-- A "(" nests from itself to its partner, the "[" of an area from itself to the area's end. A tree's place goes from its
-- first token to its last, and a stored area has the place of its type.
use Rattle.std.specs.Prelude.{ℕ, suc, Option, is_some, ◌++◌}
use Rattle.iv_words.specs.declared.Span.{Span}
use Rattle.iv_words.specs.declared.IntKind.{IntKind}
use Rattle.ivory_lexer.specs.declared.Token.{Token}
use Rattle.ivory_lexer.specs.declared.Mark.TheVariants as mark
use Rattle.ivory_lexer.specs.declared.Key.TheVariants as key
use Rattle.ivory_tree.specs.Syntax.{Word}
use Rattle.ivory_tree.specs.declared.RegionText.{RegionText}
use Rattle.ivory_tree.specs.declared.TypeText.{TypeText}
use Rattle.ivory_tree.specs.declared.TypeKind.{TypeKind}
use Rattle.ivory_tree.specs.declared.TypeKind.TheVariants as form
use Rattle.ivory_tree.specs.declared.AreaText.{AreaText}
use Rattle.ivory_tree.specs.declared.AreaKind.TheVariants as areas
use Rattle.reading.specs.Row.{Row, tokens}
use Rattle.reading.specs.Language.{Language, Terminal, Optional}
use Rattle.expression_grammar.specs.Tokens.{symbol, keyword, word_of, number_of, int_of, span_of}
use Rattle.module_grammar.specs.Tokens.{region_of}
use Rattle.module_grammar.specs.Trees as tree

pub data Symbol : Type 0 where
  value : Symbol
  type : Symbol
  area : Symbol

abbrev pub Tree : Symbol → Type 0
Tree value = TypeKind
Tree type = TypeText
Tree area = AreaText

pub data Spells : (s : Symbol) → Tree s → ℕ → Row Token → Type 0 where
  truth : {d : ℕ} {at : Span} {f : Row Token} → Terminal d (keyword key.KwBool) at f → Spells value form.Bool d f
  whole : {d : ℕ} {k : IntKind} {f : Row Token} → Terminal d int_of k f → Spells value (form.Int k) d f
  index : {d n : ℕ} {head at to : Span} {e f g h : Row Token} → Terminal d (keyword key.KwIx) head e → Terminal (suc d) (symbol mark.OpenParen) at f → Terminal (suc d) number_of n g
      → Terminal (suc d) (symbol mark.CloseParen) to h → Spells value (form.Ix n) d (e ++ (f ++ (g ++ h)))
  bits : {d : ℕ} {w : Word} {f : Row Token} → Terminal d word_of w f → Spells value (form.Bits w) d f
  plain : {d : ℕ} {k : TypeKind} {f : Row Token} → Spells value k d f → Spells type (tree.typed k (span_of (tokens f))) d f
  reference : {d : ℕ} (constant : Option Span) (e : Row Token) {head : Span} {r : RegionText} {a : AreaText} {f g h : Row Token} → Optional (Terminal d (keyword key.KwConst)) constant e
      → Terminal d (keyword key.KwRef) head f → Terminal d region_of r g → Spells area a d h
      → Spells type (tree.typed (tree.reference (is_some constant) r a) (span_of (tokens (e ++ (f ++ (g ++ h)))))) d (e ++ (f ++ (g ++ h)))
  stored : {d : ℕ} {k : TypeKind} {f : Row Token} → Spells value k d f → Spells area (tree.stored k (span_of (tokens f))) d f
  array : {d n : ℕ} {at to : Span} {a : AreaText} {f g h i : Row Token} → Terminal (suc d) (symbol mark.OpenBracket) at f → Terminal (suc d) number_of n g
      → Terminal (suc d) (symbol mark.CloseBracket) to h → Spells area a (suc d) i
      → Spells area (tree.area (areas.Array n a) (span_of (tokens (f ++ (g ++ (h ++ i)))))) d (f ++ (g ++ (h ++ i)))
  structure : {d : ℕ} {head : Span} {w : Word} {f g : Row Token} → Terminal d (keyword key.KwStruct) head f → Terminal d word_of w g
      → Spells area (tree.area (areas.Struct w) (span_of (tokens (f ++ g)))) d (f ++ g)

-- what a symbol spells at a depth
abbrev pub Rule : (s : Symbol) → ℕ → Language Token (Tree s)
Rule s d x row = Spells s x d row
