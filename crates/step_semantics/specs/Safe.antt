-- Parts that halt only so far as is allowed, with what is known where they finish; above all, parts that never lack a
-- defined meaning.
use Rattle.std.specs.Prelude.{◌≢◌, ℕ, Bool, IsTrue}
use Rattle.run_records.specs.declared.End.TheVariants.{Stopped, Undefined}
use Rattle.run_records.specs.declared.Outcome.{Outcome}
use Rattle.run_records.specs.declared.Reason.{Reason}
use Rattle.step_semantics.specs.Steps.{World, Halt, FailedCheck, MissingReply, UnfitReply, NoMeaning, Progress, Finished, Halted, Exhausted, Part}

abbrev pub HasMeaning : Halt → Type 0
HasMeaning (NoMeaning reason) = ⊥
HasMeaning (FailedCheck site) = Unit {0}
HasMeaning MissingReply = Unit {0}
HasMeaning UnfitReply = Unit {0}

-- a part came out with `post` of its value and state, or halted as is allowed
abbrev pub Keeps : {S A : Type 0} → (Halt → Type 0) → (A → S → Type 0) → Progress S A → Type 0
Keeps allowed post (Finished a w s n) = post a s
Keeps allowed post (Halted how w seen) = allowed how
Keeps allowed post (Exhausted w) = Unit {0}

abbrev pub Safe : {S A : Type 0} → (A → S → Type 0) → Progress S A → Type 0
Safe post r = Keeps HasMeaning post r

-- a part that has a meaning from every state, whatever it comes to
pub record AlwaysSafe {S A : Type 0} (part : Part S A) : Type 0 where
  pub safe : (n : ℕ) (w : World) (s : S) → Safe (λ a u. Unit {0}) (part n w s)

-- a run that has a meaning for every number of steps
abbrev pub NeverUndefined : (ℕ → Outcome) → Type 0
NeverUndefined run = (n : ℕ) (reason : Reason) → (run n).end ≢ Undefined reason

-- a run in which no check of these sites ever fails
abbrev pub NeverFailsAt : (ℕ → Bool) → (ℕ → Outcome) → Type 0
NeverFailsAt sites run = (n site : ℕ) → IsTrue (sites site) → (run n).end ≢ Stopped site
