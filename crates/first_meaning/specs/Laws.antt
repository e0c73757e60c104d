-- The laws of the source's runs.
use Rattle.std.specs.Prelude.{◌≡◌, ℕ, pos, List, [], ◌∷◌, None, codes}
use Rattle.run_records.specs.declared.End.{End}
use Rattle.run_records.specs.declared.End.TheVariants.{Ended, Going}
use Rattle.run_records.specs.declared.Event.{Event}
use Rattle.run_records.specs.declared.Event.TheVariants.{Call, Ret}
use Rattle.run_records.specs.declared.Piece.TheVariants.{Value}
use Rattle.run_records.specs.declared.Outcome.{Outcome}
use Rattle.run_records.specs.declared.Script.{Script}
use Rattle.run_records.specs.Scripts.{Fits}
use Rattle.step_semantics.specs.Outcomes.{OutcomeLaws}
use Rattle.step_semantics.specs.Safe.{NeverUndefined}
use Rattle.first_form.specs.declared.FirstModule.{FirstModule}
use Rattle.first_form.specs.Valid.{Valid}
use Rattle.first_meaning.specs.Source.{run_src, exports_of}

abbrev pub RunsObeyTheirLaws : Type 0
RunsObeyTheirLaws = (m : FirstModule) (script : Script) → OutcomeLaws (run_src m script)

abbrev pub RunsAreDefined : Type 0
RunsAreDefined = (m : FirstModule) → Valid m → (script : Script) → Fits script (exports_of m) → NeverUndefined (run_src m script)

-- a module with an import `set` of two parameters, and a procedure `go` that calls it with 1 and 2, and then with 3 and 4
abbrev pub setting : FirstModule
setting = record {
  imports = record { name = codes "set"; params = 2 } ∷ [];
  procs = record { name = codes "go"; calls = record { import = 0; values = 1 ∷ 2 ∷ [] } ∷ record { import = 0; values = 3 ∷ 4 ∷ [] } ∷ [] } ∷ [];
}

abbrev pub calling_go : Script
calling_go = record { calls = record { name = codes "go"; values = []; line = 1 } ∷ []; replies = [] }

abbrev pub set_with : ℕ → ℕ → Event
set_with a b = Call (codes "set") (Value (pos a) ∷ Value (pos b) ∷ [])

abbrev pub shown : List Event → End → Outcome
shown events end = record { events = events; end = end; areas = [] }

-- the entry call takes the first step, and each call of the import one more
pub record CallsTakeSteps : Type 0 where
  pub none : run_src setting calling_go 0 ≡ shown [] Going
  pub entered : run_src setting calling_go 1 ≡ shown [] Going
  pub first : run_src setting calling_go 2 ≡ shown (set_with 1 2 ∷ []) Going
  pub both : run_src setting calling_go 3 ≡ shown (set_with 1 2 ∷ set_with 3 4 ∷ Ret (codes "go") None ∷ []) Ended
