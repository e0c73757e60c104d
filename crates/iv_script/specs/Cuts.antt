-- A text while it is read line by line: what follows the end of a line, if the text has one, and what the lines so far say.
use Rattle.std.specs.Prelude.{ℕ, ◌+◌, Bool, not, List, [], ◌∷◌, ◌++◌, length, Option, Some, None, Result, Ok, Err}
use Rattle.run_records.specs.declared.Script.{Script}
use Rattle.iv_script.specs.declared.fault.ScriptFault.{ScriptFault}
use Rattle.iv_script.specs.declared.line.Line.{Line}
use Rattle.iv_script.specs.declared.line.Line.TheVariants.{Nothing, Call, Reply}
use Rattle.iv_script.specs.ScriptText.{is_blank, lines}

abbrev pub lines_left : Option (List ℕ) → List (List ℕ)
lines_left None = []
lines_left (Some text) = lines text

-- one more than the bytes that are left, so that no text left counts least
abbrev pub size_left : Option (List ℕ) → ℕ
size_left None = 0
size_left (Some text) = length text + 1

abbrev pub is_filled : ℕ → Bool
is_filled b = not (is_blank b)

-- a line stands behind what the earlier ones say
abbrev pub said_behind : ℕ → Line → Script → Script
said_behind number Nothing script = script
said_behind number (Call name values) script = record { calls = script.calls ++ record { name = name; values = values; line = number } ∷ []; replies = script.replies }
said_behind number (Reply values) script = record { calls = script.calls; replies = script.replies ++ record { values = values; line = number } ∷ [] }

-- what earlier lines say, and then what the later ones say
abbrev pub followed : Script → Result Script ScriptFault → Result Script ScriptFault
followed script (Err fault) = Err fault
followed script (Ok more) = Ok (record { calls = script.calls ++ more.calls; replies = script.replies ++ more.replies })
