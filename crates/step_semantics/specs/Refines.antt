-- Two runs go alike, where the second has sixteen times the steps and sixteen more: each is ahead of the other by no event,
-- both end alike, and the second always has a meaning.
use Rattle.std.specs.Prelude.{◌≡◌, ◌≢◌, ℕ, ◌+◌, ◌*◌, ◌≤◌}
use Rattle.run_records.specs.declared.End.TheVariants.{Going}
use Rattle.run_records.specs.declared.Outcome.{Outcome}
use Rattle.step_semantics.specs.Lawful.{Prefix}
use Rattle.step_semantics.specs.Safe.{NeverUndefined}

-- a run comes to the outcome within the steps that n steps of another allow, and no sooner
pub record Meets (target : ℕ → Outcome) (n : ℕ) (o : Outcome) : Type 0 where
  pub steps : ℕ
  pub many : n ≤ steps
  pub few : steps ≤ 16 * n + 16
  pub is : target steps ≡ o

pub record Refines (source target : ℕ → Outcome) : Type 0 where
  -- what the target shows within n steps the source shows within n
  pub within : (n : ℕ) → Prefix (target n).events (source n).events
  -- what the source shows within n steps the target shows within 16n+16
  pub reaches : (n : ℕ) → Prefix (source n).events (target (16 * n + 16)).events
  -- where the source has ended, the target has ended in the same way
  pub ends : (n : ℕ) → (source n).end ≢ Going → target (16 * n + 16) ≡ source n
  -- where the target has ended, the source has ended in the same way
  pub ends_only : (n : ℕ) → (target n).end ≢ Going → source n ≡ target n
  pub defined : NeverUndefined target
