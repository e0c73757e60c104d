-- What the laws of this crate say, of the small grammar.
use Rattle.std.specs.Prelude.{◌≡◌, ℕ, List}
use Rattle.reading.specs.Row.{no_signs}
use Rattle.reading.specs.Exact.{Exact, Spelled}
use Rattle.grammars.specs.Example.{Letter, Value, Text, parse}

abbrev pub ListsAreParsedExactly : Type 0
ListsAreParsedExactly = (limit : ℕ) → Exact no_signs limit Text (parse limit)

abbrev pub ATextHasOneTree : Type 0
ATextHasOneTree = (x y : List Value) (ts : List Letter) → Spelled Text x ts → Spelled Text y ts → x ≡ y
