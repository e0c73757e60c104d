-- Small texts of scripts and what they say, calls that fit an export or do not, and small reports.
use Rattle.std.specs.Prelude.{◌≡◌, ℕ, ℤ, pos, negsuc, List, [], ◌∷◌, ◌++◌, codes, None, Ok, Err}
use Rattle.iv_words.specs.declared.IntKind.TheVariants.{U8}
use Rattle.run_records.specs.declared.Script.{Script}
use Rattle.run_records.specs.declared.Export.{Export}
use Rattle.run_records.specs.declared.EntryCall.{EntryCall}
use Rattle.run_records.specs.declared.Plain.TheVariants.{Truth, Int}
use Rattle.run_records.specs.declared.Outcome.{Outcome}
use Rattle.run_records.specs.declared.Event.TheVariants as event
use Rattle.run_records.specs.declared.End.{End}
use Rattle.run_records.specs.declared.End.TheVariants as end
use Rattle.run_records.specs.declared.Reason.TheVariants.{Dead}
use Rattle.iv_script.specs.declared.fault.ScriptWhy.TheVariants.{BadWord, BadNumber, NoSuchName, BadCount, OutOfRange}
use Rattle.iv_script.specs.ScriptText.{script_of}
use Rattle.iv_script.specs.Fit.{fit_of}
use Rattle.iv_script.specs.Report.{report}

abbrev line : List ℕ → List ℕ
line text = text ++ 10 ∷ []

abbrev script : Script
script = record {
  calls = record { name = codes "f"; values = pos 255 ∷ negsuc 6 ∷ []; line = 2 } ∷ record { name = codes "g"; values = []; line = 4 } ∷ [];
  replies = record { values = pos 7 ∷ []; line = 3 } ∷ [];
}

-- comments and blank lines are counted, blanks stand anywhere about words, and one byte 13 ends a line with byte 10
abbrev pub ReadExamples : Type 0
ReadExamples =
    (script_of (line (codes "# call f") ++ line (codes " call  f 255 -07 ") ++ codes "reply 7" ++ 13 ∷ 10 ∷ [] ++ codes "call g") ≡ Ok script)
    × (script_of [] ≡ Ok (record { calls = []; replies = [] }))
    × (script_of (line (codes "call") ++ line (codes "call f x")) ≡ Err (record { line = 1; why = BadWord }))
    × (script_of (line (codes "reply 1") ++ line (codes "call f 1 +1") ++ line (codes "x")) ≡ Err (record { line = 2; why = BadNumber }))
    × (script_of (codes "reply 1" ++ 13 ∷ 13 ∷ 10 ∷ []) ≡ Err (record { line = 1; why = BadNumber }))
    × (script_of (codes "replies") ≡ Err (record { line = 1; why = BadWord }))

abbrev exports : List Export
exports = record { name = codes "f"; params = Int U8 ∷ Truth ∷ []; result = None } ∷ record { name = codes "f"; params = []; result = None } ∷ []

abbrev call_of : List ℕ → List ℤ → List EntryCall
call_of name values = record { name = name; values = values; line = 3 } ∷ []

-- of two exports of one name the first counts
abbrev pub FitExamples : Type 0
FitExamples =
    (fit_of (call_of (codes "f") (pos 255 ∷ pos 1 ∷ [])) exports ≡ Ok tt)
    × (fit_of (call_of (codes "f") (pos 256 ∷ pos 1 ∷ [])) exports ≡ Err (record { line = 3; why = OutOfRange }))
    × (fit_of (call_of (codes "f") (pos 255 ∷ pos 2 ∷ [])) exports ≡ Err (record { line = 3; why = OutOfRange }))
    × (fit_of (call_of (codes "f") (pos 256 ∷ [])) exports ≡ Err (record { line = 3; why = BadCount }))
    × (fit_of (call_of (codes "g") []) exports ≡ Err (record { line = 3; why = NoSuchName }))

abbrev outcome_of : End → Outcome
outcome_of how = record {
  events = event.Call (codes "tick") [] ∷ event.Ret (codes "run") None ∷ [];
  end = how;
  areas = record { name = codes "a"; cells = [] } ∷ [];
}

abbrev events_text : List ℕ
events_text = line (codes "call tick") ++ line (codes "ret run")

abbrev pub ReportExamples : Type 0
ReportExamples =
    (report (outcome_of end.Ended) ≡ events_text ++ line (codes "end") ++ line (codes "area a"))
    × (report (outcome_of end.NoReply) ≡ events_text ++ line (codes "noreply") ++ line (codes "area a"))
    × (report (outcome_of end.Going) ≡ events_text ++ line (codes "going"))
    × (report (outcome_of (end.Undefined Dead)) ≡ events_text ++ line (codes "undefined dead"))
