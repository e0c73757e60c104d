-- The command line: which lists of words are a command, and which one.
use Rattle.std.specs.Prelude.{ℕ, Bool, true, false, ◌&&◌, nat_le, if◌then◌else◌, List, [], ◌∷◌, length, Option, Some, None, codes}
use Rattle.std.specs.Option.{option_map}
use Rattle.iv_base.specs.Numbers.{are_digits, value}
use Rattle.iv_words.specs.Words.{same_word}
use Rattle.ivoryc.specs.declared.command.Command.{Command}
use Rattle.ivoryc.specs.declared.command.Command.TheVariants.{Emit, Check, Sites, Run, CRun, Big}

-- a word that stands for a file has at least one byte
abbrev pub names_file : List ℕ → Bool
names_file [] = false
names_file (b ∷ bs) = true

-- the greatest number of steps that can be asked for
abbrev pub most_steps : ℕ
most_steps = 100000000

-- at least one and at most so many decimal digits
abbrev pub is_short_number : (most : ℕ) → List ℕ → Bool
is_short_number most word = are_digits word && nat_le (length word) most

-- a value that is no greater
abbrev pub few_steps : ℕ → Option ℕ
few_steps n = if nat_le n most_steps then Some n else None

abbrev pub steps_of : List ℕ → Option ℕ
steps_of word = if is_short_number 9 word then few_steps (value word) else None

-- the greatest number of procedures of a generated module
abbrev pub most_procedures : ℕ
most_procedures = 2000

abbrev pub some_procedures : ℕ → Option ℕ
some_procedures k = if nat_le 1 k && nat_le k most_procedures then Some k else None

abbrev pub procedures_of : List ℕ → Option ℕ
procedures_of word = if is_short_number 4 word then some_procedures (value word) else None

-- `emit FILE`, `check FILE` and `sites FILE`
abbrev pub command_on : (name file : List ℕ) → Option Command
command_on name file =
    if same_word name (codes "emit") then Some (Emit file)
    else if same_word name (codes "check") then Some (Check file)
    else if same_word name (codes "sites") then Some (Sites file)
    else None

-- and `big K`
abbrev pub short_command : (name word : List ℕ) → Option Command
short_command name word =
    if same_word name (codes "big") then option_map Big (procedures_of word)
    else if names_file word then command_on name word
    else None

-- `run FILE SCRIPT N` and `crun CFILE SCRIPT N`
abbrev pub run_on : (name file script : List ℕ) (n : ℕ) → Option Command
run_on name file script n =
    if same_word name (codes "run") then Some (Run file script n)
    else if same_word name (codes "crun") then Some (CRun file script n)
    else None

abbrev pub run_command : (name file script : List ℕ) → Option ℕ → Option Command
run_command name file script None = None
run_command name file script (Some n) = if names_file file && names_file script then run_on name file script n else None

abbrev pub command : List (List ℕ) → Option Command
command [] = None
command (name ∷ []) = None
command (name ∷ word ∷ []) = short_command name word
command (name ∷ file ∷ script ∷ []) = None
command (name ∷ file ∷ script ∷ steps ∷ []) = run_command name file script (steps_of steps)
command (name ∷ file ∷ script ∷ steps ∷ more ∷ rest) = None
