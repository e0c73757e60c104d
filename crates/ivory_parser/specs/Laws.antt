-- What holds of each tree that the parser gives for tokens in the order of a text.
use Rattle.std.specs.Prelude.{ℕ, List, IfOk, Result}
use Rattle.ivory_lexer.specs.Tokens.{InOrder}
use Rattle.ivory_lexer.specs.declared.Token.{Token}
use Rattle.ivory_tree.specs.View.{module_of}
use Rattle.ivory_tree.specs.declared.Module.{Module}
use Rattle.spelled_trees.specs.Trees.{OfTokens}
use Rattle.ivory_parser.specs.declared.answer.SyntaxFault.{SyntaxFault}

-- it is formed, has few nodes and names of the language, and is not too deep
abbrev pub OfOrderedTokens : List Token → Result Module SyntaxFault → Type 0
OfOrderedTokens ts result = (high : ℕ) → InOrder 0 ts high → IfOk result (λ tree. OfTokens ts (module_of tree))
