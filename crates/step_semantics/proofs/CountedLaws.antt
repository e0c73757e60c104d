-- Loops that count keep the laws, and what their turns keep; and they have a meaning where their turns do.
use Rattle.std.proofs.Common.{◌≡◌, ℕ, zero, suc}
use Rattle.step_semantics.specs.Steps.{World, Halt, Part, give, tick}
use Rattle.step_semantics.specs.Control.{Control, Falls, Broke, Returned, again, counted}
use Rattle.step_semantics.specs.Lawful.{Lawful}
use Rattle.step_semantics.specs.Safe.{HasMeaning, Keeps, AlwaysSafe}
use Rattle.step_semantics.proofs.Laws.{give_lawful, bind_lawful, tick_lawful}
use Rattle.step_semantics.proofs.Keeping.{keeps_after, keeps_tick, keeps_again}

again_lawful : {S V : Type 0} (loop : Part S (Control V)) → Lawful loop → (a : Control V) → Lawful (again loop a)
again_lawful loop l Falls = l
again_lawful loop l Broke = give_lawful Falls
again_lawful loop l (Returned v) = give_lawful (Returned v)

pub counted_lawful : {S V : Type 0} (next : ℕ → ℕ) (body : ℕ → Part S (Control V)) → ((i : ℕ) → Lawful (body i)) → (more i : ℕ) → Lawful (counted more next i body)
counted_lawful next body h zero i = bind_lawful (tick (body i)) (again (give Falls)) (tick_lawful (body i) (h i)) (again_lawful (give Falls) (give_lawful Falls))
counted_lawful next body h (suc more) i =
    bind_lawful (tick (body i)) (again (counted more next (next i) body)) (tick_lawful (body i) (h i)) (again_lawful (counted more next (next i) body) (counted_lawful next body h more (next i)))

-- `fits` is what is known of a value, with so many turns after its own
module _ (allowed : Halt → Type 0) {S V : Type 0} (mid post : Control V → S → Type 0) (falls : (s : S) → mid Falls s → post Falls s) (broke : (s : S) → mid Broke s → post Falls s) (back : (v : V) (s : S) → mid (Returned v) s → post (Returned v) s) (next : ℕ → ℕ) (body : ℕ → Part S (Control V)) (fits : ℕ → ℕ → Type 0) (more_fit : (more i : ℕ) → fits (suc more) i → fits more (next i)) (h : (more i : ℕ) → fits more i → (s : S) → mid Falls s → (n : ℕ) (w : World) → Keeps allowed mid (body i n w s)) where
  pub keeps_counted : (more i : ℕ) → fits more i → (n : ℕ) (w : World) (s : S) → mid Falls s → Keeps allowed post (counted more next i body n w s)
  keeps_counted zero i f n w s p =
      keeps_after allowed mid post (tick (body i) n w s) (again (give Falls)) (keeps_tick allowed mid (body i) n w s (λ m. h zero i f s p m w)) (keeps_again allowed mid post broke back (give Falls) (λ u q m v. falls u q))
  keeps_counted (suc more) i f n w s p =
      keeps_after allowed mid post (tick (body i) n w s) (again (counted more next (next i) body)) (keeps_tick allowed mid (body i) n w s (λ m. h (suc more) i f s p m w)) (keeps_again allowed mid post broke back (counted more next (next i) body) (λ u q m v. keeps_counted more (next i) (more_fit more i f) m v u q))

pub counted_safe : {S V : Type 0} (next : ℕ → ℕ) (body : ℕ → Part S (Control V)) → ((i : ℕ) → AlwaysSafe (body i)) → (more i : ℕ) → AlwaysSafe (counted more next i body)
counted_safe next body h more i = record { safe = λ n w s. keeps_counted HasMeaning (λ a u. Unit {0}) (λ a u. Unit {0}) (λ u t. tt) (λ u t. tt) (λ v u t. tt) next body (λ k j. Unit {0}) (λ k j t. tt) (λ k j t u q m v. (h j).safe m v u) more i tt n w s tt }
