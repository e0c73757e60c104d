-- What holds of the tokens of every text.
use Rattle.std.specs.Prelude.{◌≡◌, ℕ, ◌<◌, ◌≤◌, List, [], ◌∷◌, length, None, IsTrue}
use Rattle.ivory_lexer.specs.Limits.{longest_name}
use Rattle.ivory_lexer.specs.Table.{is_name, look_up}
use Rattle.ivory_lexer.specs.Words.{keywords}
use Rattle.ivory_lexer.specs.declared.token.Token.{Token}
use Rattle.ivory_lexer.specs.declared.token.TokenKind.{TokenKind}
use Rattle.ivory_lexer.specs.declared.token.TokenKind.TheVariants as kind

-- a name of the language: letters, digits and `_`, not a digit first, not too long, and no keyword
abbrev pub IsName : List ℕ → Type 0
IsName name = IsTrue (is_name name) × (length name ≤ longest_name) × (look_up keywords name ≡ None)

abbrev pub IsKind : TokenKind → Type 0
IsKind (kind.Name name) = IsName name
IsKind (kind.Number value) = Unit {0}
IsKind (kind.Key key) = Unit {0}
IsKind (kind.Mark mark) = Unit {0}

-- each token has a byte at least and stands after the one before it, all between these places
abbrev pub InOrder : ℕ → List Token → ℕ → Type 0
InOrder low [] high = low ≤ high
InOrder low (t ∷ ts) high = (low ≤ t.span.start) × (t.span.start < t.span.end) × IsKind t.kind × InOrder t.span.end ts high
