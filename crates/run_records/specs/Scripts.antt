-- When the values that a script gives fit the types that are wanted, and when a whole script fits what a module exports.
use Rattle.std.specs.Prelude.{ℕ, ℤ, pos, Bool, true, false, ◌&&◌, if◌then◌else◌, int_le, List, [], ◌∷◌, Option, Some, None, IsTrue}
use Rattle.iv_words.specs.Words.{same_word}
use Rattle.iv_words.specs.Kinds.{in_range}
use Rattle.run_records.specs.declared.records.Plain.{Plain}
use Rattle.run_records.specs.declared.records.Plain.TheVariants.{Truth, Int}
use Rattle.run_records.specs.declared.records.Export.{Export}
use Rattle.run_records.specs.declared.records.EntryCall.{EntryCall}
use Rattle.run_records.specs.declared.records.Script.{Script}

-- a truth is 0 or 1
abbrev pub plain_fits : Plain → ℤ → Bool
plain_fits Truth v = int_le (pos 0) v && int_le v (pos 1)
plain_fits (Int kind) v = in_range kind v

-- as many values as types, each in its type
abbrev pub values_fit : List Plain → List ℤ → Bool
values_fit [] [] = true
values_fit [] (v ∷ vs) = false
values_fit (t ∷ ts) [] = false
values_fit (t ∷ ts) (v ∷ vs) = plain_fits t v && values_fit ts vs

-- the first export of the name
abbrev pub export_of : List ℕ → List Export → Option Export
export_of name [] = None
export_of name (x ∷ xs) = if same_word x.name name then Some x else export_of name xs

abbrev pub found_fits : Option Export → List ℤ → Bool
found_fits None values = false
found_fits (Some x) values = values_fit x.params values

-- each call names an export, with a value of its type for each parameter
abbrev pub calls_fit : List EntryCall → List Export → Bool
calls_fit [] exports = true
calls_fit (c ∷ cs) exports = found_fits (export_of c.name exports) c.values && calls_fit cs exports

abbrev pub Fits : Script → List Export → Type 0
Fits script exports = IsTrue (calls_fit script.calls exports)
