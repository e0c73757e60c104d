-- What a result of the parser says of the bytes: the unit that their pieces spell with at most 300 brackets open, or the byte at
-- which the first piece stands that no unit has there, or that opens a bracket too many; nothing, where memory ran out.
use Rattle.std.specs.Prelude.{◌≡◌, ℕ, List, length, take, Result, Ok, Err}
use Rattle.c_ast.specs.Syntax.{TranslationUnit}
use Rattle.c_ast.specs.View.{unit_of}
use Rattle.c_ast.specs.declared.unit.CUnit.{CUnit}
use Rattle.reading.specs.Exact.{Answer, Tree, UnexpectedToken, DeepToken}
use Rattle.c_grammar.specs.Pieces.{joined, pieces}
use Rattle.c_grammar.specs.Subset.{parse}
use Rattle.c_lexemes.specs.Levels.{most_open}
use Rattle.c_parser.specs.declared.answer.UnitFault.{UnitFault}
use Rattle.c_parser.specs.declared.answer.UnitFault.TheVariants as fault

-- the bytes before the piece with this number
abbrev pub bytes_before : List ℕ → ℕ → ℕ
bytes_before bytes k = length (joined (take k (pieces bytes)))

-- what a result says of an answer for the pieces of these bytes
abbrev pub Says : List ℕ → Result CUnit UnitFault → Answer TranslationUnit → Type 0
Says bytes (Ok u) answer = answer ≡ Tree (unit_of u)
Says bytes (Err (fault.Unexpected at)) answer = (k : ℕ) × (answer ≡ UnexpectedToken k) × (at ≡ bytes_before bytes k)
Says bytes (Err (fault.TooDeep at)) answer = (k : ℕ) × (answer ≡ DeepToken k) × (at ≡ bytes_before bytes k)
Says bytes (Err fault.Memory) answer = Unit {0}

abbrev pub Reads : List ℕ → Result CUnit UnitFault → Type 0
Reads bytes result = Says bytes result (parse most_open (pieces bytes))
