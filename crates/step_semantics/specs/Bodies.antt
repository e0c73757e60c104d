-- What is asked of two modules' procedures so that the runs of each script go alike.
use Rattle.std.specs.Prelude.{◌≡◌, ℕ, ℤ, Bool, List, Option, IsTrue}
use Rattle.run_records.specs.declared.EntryCall.{EntryCall}
use Rattle.run_records.specs.declared.Export.{Export}
use Rattle.run_records.specs.Scripts.{export_of, found_fits}
use Rattle.step_semantics.specs.Steps.{World}
use Rattle.step_semantics.specs.Runs.{Body}
use Rattle.step_semantics.specs.Follows.{Follows}

-- an entry call that a script which fits may make
abbrev pub CallFits : EntryCall → List Export → Type 0
CallFits call exports = IsTrue (found_fits (export_of call.name exports) call.values)

-- both give the same result, and leave related states
pub record Returns {S T : Type 0} (rel : S → T → Type 0) (result : Option ℤ) (s : S) (result' : Option ℤ) (t : T) : Type 0 where
  pub same : result' ≡ result
  pub states : rel s t

-- From related states each entry call follows. An entry call's own step is one on both sides, which leaves the second fifteen.
abbrev pub BodiesFollow : {S T : Type 0} → (ℕ → Bool) → (S → T → Type 0) → List Export → Body S → Body T → Type 0
BodiesFollow {S} {T} excused rel exports body body' = (call : EntryCall) → CallFits call exports → (n : ℕ) (w : World) (s : S) (t : T) → rel s t → Follows excused (Returns rel) 15 0 n (body call n w s) (λ j. body' call j w t)
