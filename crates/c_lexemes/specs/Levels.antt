-- Rules where so many brackets are open, of which 300 may be.
use Rattle.std.specs.Prelude.{ℕ, ◌+◌, ◌-◌, ◌*◌, Bool, List, Option, Some}
use Rattle.std.specs.Option.{option_map}
use Rattle.reading.specs.Reader.{Reader, below, nested, give}
use Rattle.grammars.specs.Grammar.{of_kind}
use Rattle.grammars.specs.Kinds.{holds}
use Rattle.grammars.specs.Reader.{read_with, read, next}
use Rattle.c_grammar.specs.Pieces.{Piece, Byte}
use Rattle.c_grammar.specs.Kinds.{lexicon, is_whole}
use Rattle.c_grammar.specs.Symbols.{Symbol, Tree, Rule}
use Rattle.c_grammar.specs.Subset.{grammar}

abbrev pub most_open : ℕ
most_open = 300

-- what may stand in one more bracket
unfoldable pub inner_at : ℕ → Option ((n : Symbol) → Reader Piece (Tree n))
inner_at d = below (read lexicon grammar (d + 1)) (most_open - d)

abbrev pub reads_at : {A : Type 0} → ℕ → Rule A → Reader Piece A
reads_at d r = read_with lexicon d (inner_at d) r

-- the next piece is of one of these kinds
abbrev pub begins_with : ℕ → List ℕ → List Piece → Bool
begins_with d kinds ps = holds kinds (next lexicon d ps)

-- a bracket of this kind, and how many are open behind it
abbrev pub opening : ℕ → ℕ → Reader Piece ℕ
opening d k = nested (of_kind lexicon d k Some) (option_map (λ _ _. give (d + 1)) (inner_at d))

-- a byte that is no letter, digit, underscore or blank
abbrev pub is_mark : ℕ → Bool
is_mark b = is_whole (Byte b)
