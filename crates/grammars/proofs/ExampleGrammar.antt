-- The small grammar can be read by its first letters, so that its parser is exact.
use Rattle.std.proofs.Common.{◌≡◌, ℕ, List, refl}
use Rattle.reading.specs.Row.{no_signs}
use Rattle.reading.specs.Exact.{Exact, Spelled}
use Rattle.grammars.specs.Checks.{Checked}
use Rattle.grammars.specs.Example.{Letter, Value, lexicon, values, text, grammar, Text, parse}
use Rattle.grammars.proofs.Soundness.{parsed_exactly, one_tree}

checked : Checked lexicon grammar
checked = record { levels = 2; fills = elim [ values ↦ refl | text ↦ refl ]; apart = λ d. elim [ values ↦ refl | text ↦ refl ] }

pub exactly : (limit : ℕ) → Exact no_signs limit Text (parse limit)
exactly = parsed_exactly lexicon grammar checked text

pub unique : (x y : List Value) (ts : List Letter) → Spelled Text x ts → Spelled Text y ts → x ≡ y
unique = one_tree lexicon grammar checked text
