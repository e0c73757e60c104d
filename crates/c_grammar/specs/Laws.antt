-- What the laws of this crate say.
use Rattle.std.specs.Prelude.{◌≡◌, ℕ, List}
use Rattle.reading.specs.Row.{no_signs}
use Rattle.reading.specs.Exact.{Exact, Spelled}
use Rattle.c_ast.specs.Syntax.{TranslationUnit}
use Rattle.c_text.specs.Spelling.{unit_text}
use Rattle.c_text.specs.Subset.{InSubset}
use Rattle.c_text.specs.ReadsBack.{Spells}
use Rattle.c_grammar.specs.Pieces.{Piece, joined, pieces}
use Rattle.c_grammar.specs.Subset.{Text, parse}

-- the pieces of a text are that text
abbrev pub PiecesAreTheText : Type 0
PiecesAreTheText = (text : List ℕ) → joined (pieces text) ≡ text

-- a unit just where the pieces spell one with at most so many brackets open; the first piece that no unit has there; the first
-- bracket that is one too many
abbrev pub UnitsAreReadExactly : Type 0
UnitsAreReadExactly = (limit : ℕ) → Exact no_signs limit Text (parse limit)

-- no pieces spell two units, however deep they nest
abbrev pub PiecesSpellOneUnit : Type 0
PiecesSpellOneUnit = (u v : TranslationUnit) (ps : List Piece) → Spelled Text u ps → Spelled Text v ps → u ≡ v

-- the pieces of a unit's text spell that unit
abbrev pub TextsAreSpelled : Type 0
TextsAreSpelled = (u : TranslationUnit) → InSubset u → Spelled Text u (pieces (unit_text u))

-- the bytes that spell a unit spell no other
abbrev pub TextsTellUnitsApart : Type 0
TextsTellUnitsApart = (u v : TranslationUnit) (bytes : List ℕ) → Spells u bytes → Spells v bytes → u ≡ v

-- and where the pieces of some bytes spell a unit, these bytes are its text, and it is in the subset
abbrev pub SpelledBytesAreTexts : Type 0
SpelledBytesAreTexts = (u : TranslationUnit) (bytes : List ℕ) → Spelled Text u (pieces bytes) → Spells u bytes
