-- The grammar of a module, which is a whole text.
--     module = "module" NAME ";" { item }
-- A module's place goes from its first token to its last.
use Rattle.std.specs.Prelude.{ℕ, List, ◌++◌}
use Rattle.iv_words.specs.declared.Span.{Span}
use Rattle.iv_words.specs.declared.Name.{Name}
use Rattle.ivory_lexer.specs.declared.Token.{Token}
use Rattle.ivory_lexer.specs.declared.Mark.TheVariants as mark
use Rattle.ivory_lexer.specs.declared.Key.TheVariants as key
use Rattle.ivory_tree.specs.declared.Item.{Item}
use Rattle.ivory_tree.specs.declared.Module.{Module}
use Rattle.reading.specs.Row.{Row, tokens}
use Rattle.reading.specs.Language.{Language, Terminal, Many}
use Rattle.expression_grammar.specs.Tokens.{symbol, keyword, name_of, span_of}
use Rattle.module_grammar.specs.Items as items
use Rattle.module_grammar.specs.Trees as tree

pub data Symbol : Type 0 where
  module_ : Symbol

abbrev pub Tree : Symbol → Type 0
Tree module_ = Module

pub data Spells : (s : Symbol) → Tree s → ℕ → Row Token → Type 0 where
  whole : {d : ℕ} {name : Name} {head to : Span} (xs : List Item) (h : Row Token) {e f g : Row Token} → Terminal d (keyword key.KwModule) head e → Terminal d name_of name f
      → Terminal d (symbol mark.Semicolon) to g → Many (items.Rule items.item d) xs h
      → Spells module_ (tree.module_of name xs (span_of (tokens (e ++ (f ++ (g ++ h)))))) d (e ++ (f ++ (g ++ h)))

-- what a symbol spells at a depth
abbrev pub Rule : (s : Symbol) → ℕ → Language Token (Tree s)
Rule s d x row = Spells s x d row

-- nothing encloses a module
abbrev pub Text : Language Token Module
Text = Rule module_ 0
