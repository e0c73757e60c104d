-- The line that tells a fault of a text: its place, and what is wrong there.
use Rattle.std.specs.Prelude.{ℕ, pos, List, [], ◌∷◌, ◌++◌, codes}
use Rattle.std.specs.Fmt.{signed_decimal}
use Rattle.iv_words.specs.Lines as places
use Rattle.module_text.specs.declared.fault.Fault.{Fault}
use Rattle.module_text.specs.declared.fault.Why.{Why}
use Rattle.module_text.specs.declared.fault.Why.TheVariants.{BadByte, LongName, BigLiteral, OpenComment, Unexpected, TooDeep}

abbrev pub words_of : Why → List ℕ
words_of BadByte = codes "bad byte"
words_of LongName = codes "long name"
words_of BigLiteral = codes "big literal"
words_of OpenComment = codes "open comment"
words_of Unexpected = codes "unexpected token"
words_of TooDeep = codes "too deep"

-- `LINE:COLUMN: words`
abbrev pub fault_line : Fault → List ℕ
fault_line f = signed_decimal (pos f.line) ++ (codes ":" ++ (signed_decimal (pos f.column) ++ (codes ": " ++ (words_of f.why ++ 10 ∷ []))))

-- a fault at a place of a text, which is a number of bytes from its start
abbrev pub fault_at : List ℕ → ℕ → Why → Fault
fault_at text at why = record { line = places.line text at; column = places.column text at; why = why }
