-- When an answer of a call is what the text of a script says; want of memory says nothing of it.
use Rattle.std.specs.Prelude.{◌≡◌, ⊤, ℕ, Result, Ok, Err}
use Rattle.iv_script.specs.declared.fault.ScriptFault.{ScriptFault}
use Rattle.iv_script.specs.declared.fault.ScriptWhy.{ScriptWhy}
use Rattle.iv_script.specs.declared.fault.ScriptError.{ScriptError}
use Rattle.iv_script.specs.declared.fault.ScriptError.TheVariants.{At, Memory}

-- the value that is said, or the fault that is said
abbrev pub Answers : {T : Type 0} → Result T ScriptFault → Result T ScriptError → Type 0
Answers said (Ok value) = said ≡ Ok value
Answers said (Err (At fault)) = said ≡ Err fault
Answers said (Err Memory) = ⊤

-- what is wrong with a line, as a fault at it
abbrev pub at_line : {T : Type 0} → ℕ → Result T ScriptWhy → Result T ScriptFault
at_line number (Ok value) = Ok value
at_line number (Err why) = Err (record { line = number; why = why })
