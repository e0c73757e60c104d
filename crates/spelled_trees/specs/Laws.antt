-- What holds of every tree that tokens spell. Tokens of a text are in order.
use Rattle.std.specs.Prelude.{ℕ, List}
use Rattle.ivory_lexer.specs.Tokens.{IsName, InOrder}
use Rattle.ivory_lexer.specs.declared.Token.{Token}
use Rattle.ivory_tree.specs.Formed.{Formed}
use Rattle.ivory_tree.specs.TextLike.{TextLike}
use Rattle.ivory_tree.specs.View.{module_of}
use Rattle.ivory_tree.specs.declared.Module.{Module}
use Rattle.reading.specs.Exact.{Spelled, SpelledWithin}
use Rattle.module_grammar.specs.Modules.{Text}
use Rattle.module_grammar.specs.Parse.{levels}
use Rattle.spelled_trees.specs.Trees.{FewNodes, OfTokens}

-- at whatever nesting, its nodes have the form and the places of a tree
abbrev pub SpelledTreesAreFormed : Type 0
SpelledTreesAreFormed = (ts : List Token) (high : ℕ) (m : Module) → InOrder 0 ts high → Spelled Text m ts → Formed (module_of m)

-- at whatever nesting, and in whatever order the places of the tokens are
abbrev pub SpelledTreesHaveFewNodes : Type 0
SpelledTreesHaveFewNodes = (ts : List Token) (m : Module) → Spelled Text m ts → FewNodes (module_of m) ts

-- within the levels that may nest, it is not too deep, and its names are names
abbrev pub ShallowTreesAreTextLike : Type 0
ShallowTreesAreTextLike = (ts : List Token) (high : ℕ) (m : Module) → InOrder 0 ts high → SpelledWithin Text levels m ts → TextLike IsName (module_of m)

-- all of these at once
abbrev pub ShallowTreesAreOfTokens : Type 0
ShallowTreesAreOfTokens = (ts : List Token) (high : ℕ) (m : Module) → InOrder 0 ts high → SpelledWithin Text levels m ts → OfTokens ts (module_of m)
