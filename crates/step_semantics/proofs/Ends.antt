-- What an outcome tells of how the run came out.
use Rattle.std.proofs.Common.{◌≡◌, ◌≢◌, List, [], ℕ, refl, ap}
use Rattle.run_records.specs.declared.AreaCells.{AreaCells}
use Rattle.run_records.specs.declared.End.TheVariants.{Ended, Going, Undefined}
use Rattle.run_records.specs.declared.Reason.{Reason}
use Rattle.step_semantics.specs.Steps.{Halt, FailedCheck, MissingReply, UnfitReply, NoMeaning, Progress, Finished, Halted, Exhausted, world_of}
use Rattle.step_semantics.specs.Runs.{end_of, outcome}

pub end_of_once : (a b : Halt) → end_of a ≡ end_of b → a ≡ b
end_of_once (FailedCheck k) (FailedCheck j) e = let q : k ≡ j = cc in ap FailedCheck q
end_of_once (FailedCheck k) MissingReply e = absurd (cc)
end_of_once (FailedCheck k) UnfitReply e = absurd (cc)
end_of_once (FailedCheck k) (NoMeaning r) e = absurd (cc)
end_of_once MissingReply (FailedCheck j) e = absurd (cc)
end_of_once MissingReply MissingReply e = refl
end_of_once MissingReply UnfitReply e = absurd (cc)
end_of_once MissingReply (NoMeaning r) e = absurd (cc)
end_of_once UnfitReply (FailedCheck j) e = absurd (cc)
end_of_once UnfitReply MissingReply e = absurd (cc)
end_of_once UnfitReply UnfitReply e = refl
end_of_once UnfitReply (NoMeaning r) e = absurd (cc)
end_of_once (NoMeaning r) (FailedCheck j) e = absurd (cc)
end_of_once (NoMeaning r) MissingReply e = absurd (cc)
end_of_once (NoMeaning r) UnfitReply e = absurd (cc)
end_of_once (NoMeaning r) (NoMeaning q) e = let p : r ≡ q = cc in ap NoMeaning p

-- a run that was halted does not go on, nor has it come to its script's end
pub halt_is_over : (how : Halt) → end_of how ≢ Going
halt_is_over (FailedCheck site) = λ e. cc
halt_is_over MissingReply = λ e. cc
halt_is_over UnfitReply = λ e. cc
halt_is_over (NoMeaning reason) = λ e. cc

pub halt_is_no_end : (how : Halt) → end_of how ≢ Ended
halt_is_no_end (FailedCheck site) = λ e. cc
halt_is_no_end MissingReply = λ e. cc
halt_is_no_end UnfitReply = λ e. cc
halt_is_no_end (NoMeaning reason) = λ e. cc

module _ {S A : Type 0} (see : S → List AreaCells) where
  pub going_is_exhausted : (r : Progress S A) → (outcome see r).end ≡ Going → r ≡ Exhausted (world_of r)
  going_is_exhausted (Finished a w s n) e = absurd (cc)
  going_is_exhausted (Halted (FailedCheck k) w seen) e = absurd (cc)
  going_is_exhausted (Halted MissingReply w seen) e = absurd (cc)
  going_is_exhausted (Halted UnfitReply w seen) e = absurd (cc)
  going_is_exhausted (Halted (NoMeaning r) w seen) e = absurd (cc)
  going_is_exhausted (Exhausted w) e = refl

  pub ended_is_finished : (r : Progress S A) → (outcome see r).end ≡ Ended → (a : A) × (s : S) × (n : ℕ) × (r ≡ Finished a (world_of r) s n) × ((outcome see r).areas ≡ see s)
  ended_is_finished (Finished a w s n) e = (a, s, n, refl, refl)
  ended_is_finished (Halted (FailedCheck k) w seen) e = absurd (cc)
  ended_is_finished (Halted MissingReply w seen) e = absurd (cc)
  ended_is_finished (Halted UnfitReply w seen) e = absurd (cc)
  ended_is_finished (Halted (NoMeaning r) w seen) e = absurd (cc)
  ended_is_finished (Exhausted w) e = absurd (cc)

  pub going_hides : (r : Progress S A) → (outcome see r).end ≡ Going → (outcome see r).areas ≡ []
  going_hides r e = ap (λ q. (outcome see q).areas) (going_is_exhausted r e)

  pub undefined_hides : (r : Progress S A) (reason : Reason) → (outcome see r).end ≡ Undefined reason → (outcome see r).areas ≡ []
  undefined_hides (Finished a w s n) reason e = absurd (cc)
  undefined_hides (Halted (FailedCheck k) w seen) reason e = absurd (cc)
  undefined_hides (Halted MissingReply w seen) reason e = absurd (cc)
  undefined_hides (Halted UnfitReply w seen) reason e = absurd (cc)
  undefined_hides (Halted (NoMeaning r) w seen) reason e = refl
  undefined_hides (Exhausted w) reason e = absurd (cc)
