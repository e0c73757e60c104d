-- The laws of the source's runs, part by part.
use Rattle.std.proofs.Common.{ℕ, ℤ, Bool, true, false, List, [], ◌∷◌, map, Option, Some, None, sym, subst}
use Rattle.std.specs.Prelude.{slice_get, IsTrue, if◌then◌else◌, All}
use Rattle.std.proofs.lemmas.List.Elements.{All-head, All-tail}
use Rattle.run_records.specs.declared.Export.{Export}
use Rattle.iv_words.specs.Words.{same_word}
use Rattle.run_records.specs.Scripts.{export_of, found_fits}
use Rattle.step_semantics.specs.Control.{Falls}
use Rattle.step_semantics.specs.Lawful.{Lawful}
use Rattle.step_semantics.specs.Safe.{AlwaysSafe}
use Rattle.step_semantics.proofs.Laws.{give_lawful, halt_lawful, bind_lawful, tick_lawful}
use Rattle.step_semantics.proofs.ControlLaws.{also_lawful}
use Rattle.step_semantics.proofs.RunLaws.{import_call_lawful, run_outcomes}
use Rattle.step_semantics.proofs.Safety.{give_safe, tick_safe, bind_safe, also_safe, import_call_safe, run_never_undefined}
use Rattle.first_form.specs.declared.FirstImport.{FirstImport}
use Rattle.first_form.specs.declared.FirstProc.{FirstProc}
use Rattle.first_form.specs.declared.FirstCall.{FirstCall}
use Rattle.first_form.specs.Valid.{CallFits}
use Rattle.first_meaning.specs.Source.{observed, export_for, call_of, exec, execs, entered, enter, proc_of}
use Rattle.first_meaning.specs.Laws.{RunsObeyTheirLaws, RunsAreDefined}

call_lawful : (i : Option FirstImport) (values : List ℕ) → Lawful (call_of i values)
call_lawful None values = halt_lawful observed _
call_lawful (Some i) values = tick_lawful _ (bind_lawful _ _ (import_call_lawful observed i.name _ []) (λ reply. give_lawful Falls))

execs_lawful : (imports : List FirstImport) (cs : List FirstCall) → Lawful (execs imports cs)
execs_lawful imports [] = give_lawful Falls
execs_lawful imports (c ∷ cs) = also_lawful _ _ (call_lawful (slice_get imports c.import) c.values) (execs_lawful imports cs)

entered_lawful : (imports : List FirstImport) (p : Option FirstProc) → Lawful (entered imports p)
entered_lawful imports None = halt_lawful observed _
entered_lawful imports (Some p) = bind_lawful _ _ (execs_lawful imports p.calls) (λ control. give_lawful _)

pub runs_obey : RunsObeyTheirLaws
runs_obey m script = run_outcomes observed (enter m) (λ call. entered_lawful m.imports (proc_of call.name m.procs)) tt script

-- a call of an import that is there has a meaning
found_safe : (i : FirstImport) (values : List ℕ) → AlwaysSafe (call_of (Some i) values)
found_safe i values = tick_safe _ (bind_safe _ _ (import_call_safe observed i.name _ []) (λ reply. give_safe Falls))

module _ (imports : List FirstImport) where
  exec_safe : (c : FirstCall) → CallFits imports c → AlwaysSafe (exec imports c)
  exec_safe c fits = subst (λ i. AlwaysSafe (call_of i c.values)) (sym fits.found) (found_safe fits.target c.values)

  execs_safe : (cs : List FirstCall) → All (CallFits imports) cs → AlwaysSafe (execs imports cs)
  execs_safe [] fits = give_safe Falls
  execs_safe (c ∷ cs) fits = also_safe _ _ (exec_safe c (All-head (CallFits imports) c cs fits)) (execs_safe cs (All-tail (CallFits imports) c cs fits))

  abbrev BodyFits : FirstProc → Type 0
  BodyFits p = All (CallFits imports) p.calls

  chosen_safe : (b : Bool) (p : FirstProc) (x : Export) (later : Option FirstProc) (later' : Option Export) (values : List ℤ) → BodyFits p → (IsTrue (found_fits later' values) → AlwaysSafe (entered imports later)) → IsTrue (found_fits (if b then Some x else later') values) → AlwaysSafe (entered imports (if b then Some p else later))
  chosen_safe true p x later later' values fits go found = bind_safe _ _ (execs_safe p.calls fits) (λ control. give_safe _)
  chosen_safe false p x later later' values fits go found = go found

  entered_safe : (name : List ℕ) (values : List ℤ) (ps : List FirstProc) → All BodyFits ps → IsTrue (found_fits (export_of name (map export_for ps)) values) → AlwaysSafe (entered imports (proc_of name ps))
  entered_safe name values [] fits found = let no : ⊥ = cc in absurd no
  entered_safe name values (p ∷ ps) fits found =
      chosen_safe (same_word p.name name) p (export_for p) (proc_of name ps) (export_of name (map export_for ps)) values (All-head BodyFits p ps fits) (entered_safe name values ps (All-tail BodyFits p ps fits)) found

pub runs_defined : RunsAreDefined
runs_defined m valid script fits =
    run_never_undefined (λ s. Unit {0}) _ (enter m) (λ call found n w s i. (entered_safe m.imports call.name call.values m.procs valid.calls found).safe n w s) observed tt tt script fits
