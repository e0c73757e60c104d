-- The first call of a script that does not fit what a module exports, and why. Replies have no part in it.
use Rattle.std.specs.Prelude.{ℕ, if◌then◌else◌, nat_eq, List, [], ◌∷◌, length, ℤ, Option, Some, None, Result, Ok, Err}
use Rattle.run_records.specs.Scripts.{export_of, values_fit}
use Rattle.run_records.specs.declared.Export.{Export}
use Rattle.run_records.specs.declared.EntryCall.{EntryCall}
use Rattle.iv_script.specs.declared.fault.ScriptFault.{ScriptFault}
use Rattle.iv_script.specs.declared.fault.ScriptWhy.{ScriptWhy}
use Rattle.iv_script.specs.declared.fault.ScriptWhy.TheVariants.{NoSuchName, BadCount, OutOfRange}

-- against the export of the name: none has it, else the number of values differs, else a value is none of its type
abbrev pub why_unfit : Option Export → List ℤ → Option ScriptWhy
why_unfit None values = Some NoSuchName
why_unfit (Some x) values =
    if nat_eq (length values) (length x.params) then (if values_fit x.params values then None else Some OutOfRange)
    else Some BadCount

abbrev pub fault_or : ℕ → Option ScriptWhy → Result (Unit {0}) ScriptFault → Result (Unit {0}) ScriptFault
fault_or line None rest = rest
fault_or line (Some why) rest = Err (record { line = line; why = why })

-- all calls fit, or the first that does not
abbrev pub fit_of : List EntryCall → List Export → Result (Unit {0}) ScriptFault
fit_of [] exports = Ok tt
fit_of (c ∷ cs) exports = fault_or c.line (why_unfit (export_of c.name exports) c.values) (fit_of cs exports)
