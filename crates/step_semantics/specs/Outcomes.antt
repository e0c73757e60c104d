-- The laws of the outcomes of one run, as a function of its steps: so there is one outcome for each number of steps.
use Rattle.std.specs.Prelude.{◌≡◌, ◌≢◌, ℕ, ◌≤◌}
use Rattle.run_records.specs.declared.End.TheVariants.{Going}
use Rattle.run_records.specs.declared.Outcome.{Outcome}
use Rattle.step_semantics.specs.Lawful.{Prefix}

-- with more steps the events go on
abbrev pub EventsGrow : (ℕ → Outcome) → Type 0
EventsGrow run = (n m : ℕ) → n ≤ m → Prefix (run n).events (run m).events

-- an end is the end, whatever steps there are beside
abbrev pub EndsStay : (ℕ → Outcome) → Type 0
EndsStay run = (n m : ℕ) → n ≤ m → (run n).end ≢ Going → run m ≡ run n

pub record OutcomeLaws (run : ℕ → Outcome) : Type 0 where
  pub events_grow : EventsGrow run
  pub ends_stay : EndsStay run
