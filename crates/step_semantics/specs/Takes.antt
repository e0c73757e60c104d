-- Exactly so many steps: with fewer a part waits, showing nothing, and with more it goes on.
use Rattle.std.specs.Prelude.{◌≡◌, ℕ, ◌+◌, ◌<◌}
use Rattle.step_semantics.specs.Steps.{World, Progress, Finished, Exhausted, Part}

-- the part finishes after c steps, in the same world
pub record Takes {T B : Type 0} (c : ℕ) (part : Part T B) (w : World) (t : T) (b : B) (u : T) : Type 0 where
  pub waits : (j : ℕ) → j < c → part j w t ≡ Exhausted w
  pub finishes : (j : ℕ) → part (c + j) w t ≡ Finished b w u j

-- after c steps f is what g is
pub record Reaches {T B : Type 0} (c : ℕ) (w : World) (f g : ℕ → Progress T B) : Type 0 where
  pub waits : (j : ℕ) → j < c → f j ≡ Exhausted w
  pub comes : (j : ℕ) → f (c + j) ≡ g j
