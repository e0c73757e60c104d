-- What the grammar says of the nesting at each token, the tokens alone say too.
use Rattle.std.specs.Prelude.{◌≡◌, ℕ, List, [], ◌∷◌}
use Rattle.ivory_lexer.specs.declared.Token.{Token}
use Rattle.ivory_tree.specs.declared.Module.{Module}
use Rattle.reading.specs.Row.{Row, tokens}
use Rattle.module_grammar.specs.Modules.{Text}
use Rattle.token_nesting.specs.Nesting.{nestings}

-- the nesting at each token of a row
abbrev pub depths : Row Token → List ℕ
depths [] = []
depths (m ∷ row) = m.depth ∷ depths row

abbrev pub TokensTellNesting : Type 0
TokensTellNesting = (m : Module) (row : Row Token) → Text m row → nestings (tokens row) ≡ depths row
