-- The laws of a part: events only grow, and more steps change nothing but that a run goes further.
use Rattle.std.specs.Prelude.{◌≡◌, ℕ, ◌+◌, ◌≤◌, List, ◌++◌}
use Rattle.run_records.specs.declared.Event.{Event}
use Rattle.step_semantics.specs.Steps.{World, Progress, Finished, Halted, Exhausted, Part, world_of}

-- the first list begins the second
pub record Prefix (first second : List Event) : Type 0 where
  pub more : List Event
  pub is : second ≡ first ++ more

-- what a part came to with n steps, and what it comes to with k steps more
abbrev pub Stays : {S A : Type 0} → ℕ → ℕ → Progress S A → Progress S A → Type 0
Stays n k (Finished a w s m) later = (m ≤ n) × (later ≡ Finished a w s (m + k))
Stays n k (Halted how w seen) later = later ≡ Halted how w seen
Stays n k (Exhausted w) later = Prefix w.events (world_of later).events

pub record Lawful {S A : Type 0} (part : Part S A) : Type 0 where
  pub grows : (n : ℕ) (w : World) (s : S) → Prefix w.events (world_of (part n w s)).events
  pub stays : (n k : ℕ) (w : World) (s : S) → Stays n k (part n w s) (part (n + k) w s)
