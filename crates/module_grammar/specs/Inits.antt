-- The grammar of initializers, at each depth of nesting.
--     init = expression | "{" [ init { "," init } ] "}"
-- A "{" nests from itself to its partner, and an initializer in braces has their place.
use Rattle.std.specs.Prelude.{ℕ, suc, List, [], ◌∷◌, ◌++◌}
use Rattle.iv_words.specs.declared.Span.{Span}
use Rattle.ivory_lexer.specs.declared.Token.{Token}
use Rattle.ivory_lexer.specs.declared.Mark.TheVariants as mark
use Rattle.ivory_tree.specs.declared.Expr.{Expr}
use Rattle.ivory_tree.specs.declared.InitText.{InitText}
use Rattle.ivory_tree.specs.declared.InitText.TheVariants as form
use Rattle.reading.specs.Row.{Row, tokens}
use Rattle.reading.specs.Language.{Language, Terminal}
use Rattle.expression_grammar.specs.Tokens.{symbol, span_of}
use Rattle.expression_grammar.specs.Grammar as expressions
use Rattle.module_grammar.specs.Trees as tree

pub data Symbol : Type 0 where
  init : Symbol
  -- none or more, each behind a comma
  further : Symbol

abbrev pub Tree : Symbol → Type 0
Tree init = InitText
Tree further = List InitText

pub data Spells : (s : Symbol) → Tree s → ℕ → Row Token → Type 0 where
  none : {d : ℕ} → Spells further [] d []
  more : {d : ℕ} {at : Span} {x : InitText} {xs : List InitText} {f g h : Row Token} → Terminal d (symbol mark.Comma) at f → Spells init x d g → Spells further xs d h
      → Spells further (x ∷ xs) d (f ++ (g ++ h))
  one : {d : ℕ} {x : Expr} {f : Row Token} → expressions.Rule expressions.expression d x f → Spells init (form.One x) d f
  empty : {d : ℕ} {at to : Span} {f g : Row Token} → Terminal (suc d) (symbol mark.OpenBrace) at f → Terminal (suc d) (symbol mark.CloseBrace) to g
      → Spells init (tree.braced [] (span_of (tokens (f ++ g)))) d (f ++ g)
  listed : {d : ℕ} {at to : Span} {x : InitText} {xs : List InitText} {f g h i : Row Token} → Terminal (suc d) (symbol mark.OpenBrace) at f → Spells init x (suc d) g
      → Spells further xs (suc d) h → Terminal (suc d) (symbol mark.CloseBrace) to i
      → Spells init (tree.braced (x ∷ xs) (span_of (tokens (f ++ (g ++ (h ++ i)))))) d (f ++ (g ++ (h ++ i)))

-- what a symbol spells at a depth
abbrev pub Rule : (s : Symbol) → ℕ → Language Token (Tree s)
Rule s d x row = Spells s x d row
