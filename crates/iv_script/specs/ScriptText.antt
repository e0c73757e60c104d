-- What the text of a script says, line by line: the entry calls that the outside makes, and the replies that imports get.
-- A script is at fault at the first line that says neither of them and is no comment.
use Rattle.std.specs.Prelude.{ℕ, ◌+◌, ◌^◌, Bool, true, false, if◌then◌else◌, ◌||◌, nat_eq, List, [], ◌∷◌, codes, ℤ, Option, Some, None, Result, Ok, Err}
use Rattle.std.specs.List.{filter, slice_split}
use Rattle.std.specs.Str.Lines.{strip_carriage_return}
use Rattle.iv_words.specs.Words.{same_word}
use Rattle.iv_base.specs.Numbers.{number_of}
use Rattle.run_records.specs.declared.Script.{Script}
use Rattle.iv_script.specs.declared.fault.ScriptFault.{ScriptFault}
use Rattle.iv_script.specs.declared.fault.ScriptWhy.{ScriptWhy}
use Rattle.iv_script.specs.declared.fault.ScriptWhy.TheVariants.{BadWord, BadNumber}
use Rattle.iv_script.specs.declared.line.Line.{Line}
use Rattle.iv_script.specs.declared.line.Line.TheVariants.{Nothing, Call, Reply}

-- the greatest number of bytes of a script
abbrev pub script_limit : ℕ
script_limit = 2 ^ 20

-- ---- lines and words

abbrev pub is_line_end : ℕ → Bool
is_line_end b = nat_eq b 10

-- a space or a tab
abbrev pub is_blank : ℕ → Bool
is_blank b = nat_eq b 32 || nat_eq b 9

-- the text is cut at byte 10
abbrev pub lines : List ℕ → List (List ℕ)
lines text = slice_split is_line_end text

abbrev pub has_bytes : List ℕ → Bool
has_bytes [] = false
has_bytes (b ∷ bs) = true

-- runs of bytes other than blanks
abbrev pub words : List ℕ → List (List ℕ)
words line = filter has_bytes (slice_split is_blank line)

-- the words of a line, of which a byte 13 at the end is no part
abbrev pub line_words : List ℕ → List (List ℕ)
line_words line = words (strip_carriage_return line)

-- ---- what one line says

abbrev pub with_first : Option ℤ → Option (List ℤ) → Option (List ℤ)
with_first None values = None
with_first (Some v) None = None
with_first (Some v) (Some values) = Some (v ∷ values)

-- the number that each word stands for; none where a word stands for none
abbrev pub numbers : List (List ℕ) → Option (List ℤ)
numbers [] = Some []
numbers (word ∷ more) = with_first (number_of word) (numbers more)

abbrev pub numbers_said : Option (List ℤ) → Result (List ℤ) ScriptWhy
numbers_said None = Err BadNumber
numbers_said (Some values) = Ok values

abbrev pub with_values : (List ℤ → Line) → Result (List ℤ) ScriptWhy → Result Line ScriptWhy
with_values line (Err why) = Err why
with_values line (Ok values) = Ok (line values)

-- what follows `call`: the name of a procedure and its arguments
abbrev pub call_said : List (List ℕ) → Result Line ScriptWhy
call_said [] = Err BadWord
call_said (name ∷ values) = with_values (Call name) (numbers_said (numbers values))

-- byte 35 is `#`
abbrev pub is_comment : List ℕ → Bool
is_comment [] = false
is_comment (b ∷ bs) = nat_eq b 35

-- what a line says, by its words
abbrev pub line_said : List (List ℕ) → Result Line ScriptWhy
line_said [] = Ok Nothing
line_said (first ∷ more) =
    if is_comment first then Ok Nothing
    else (if same_word first (codes "call") then call_said more
    else (if same_word first (codes "reply") then with_values Reply (numbers_said (numbers more))
    else Err BadWord))

-- ---- what a text says

-- a line stands before what the later ones say
abbrev pub said_before : ℕ → Line → Script → Script
said_before number Nothing script = script
said_before number (Call name values) script = record { calls = record { name = name; values = values; line = number } ∷ script.calls; replies = script.replies }
said_before number (Reply values) script = record { calls = script.calls; replies = record { values = values; line = number } ∷ script.replies }

-- the earlier fault is answered
abbrev pub before_rest : ℕ → Result Line ScriptWhy → Result Script ScriptFault → Result Script ScriptFault
before_rest number (Err why) rest = Err (record { line = number; why = why })
before_rest number (Ok line) (Err fault) = Err fault
before_rest number (Ok line) (Ok script) = Ok (said_before number line script)

-- the script that lines say, of which the first has the number
abbrev pub script_from : ℕ → List (List ℕ) → Result Script ScriptFault
script_from number [] = Ok (record { calls = []; replies = [] })
script_from number (line ∷ more) = before_rest number (line_said (line_words line)) (script_from (number + 1) more)

-- the script that a text says, or its first bad line. Lines are counted from 1.
abbrev pub script_of : List ℕ → Result Script ScriptFault
script_of text = script_from 1 (lines text)
