-- Parts of a run that count their steps. A part is a total function: it is given a number of steps, and comes out of them
-- where it needs more. Its meaning for every number of steps is its meaning (Owens, Myreen, Kumar and Tan, "Functional
-- Big-Step Semantics", 2016).
use Rattle.std.specs.Prelude.{ℕ, zero, suc, ℤ, List, [], ◌∷◌, ◌++◌}
use Rattle.run_records.specs.declared.Event.{Event}
use Rattle.run_records.specs.declared.Reason.{Reason}
use Rattle.run_records.specs.declared.AreaCells.{AreaCells}

-- the outside of a run: the events so far, and the replies that imports have not taken yet
pub record World : Type 0 where
  pub events : List Event
  pub replies : List (List ℤ)

-- why a run ends before its script does: a check failed, an import had no reply or one that does not fit, or there is
-- no defined meaning
pub data Halt : Type 0 where
  FailedCheck : (site : ℕ) → Halt
  MissingReply : Halt
  UnfitReply : Halt
  NoMeaning : (reason : Reason) → Halt

-- what becomes of a part: it finishes with a value, a state and the steps that are left; it halts the whole run, and
-- what is seen of the areas then stays; or its steps are used up
pub data Progress (S A : Type 0) : Type 0 where
  Finished : A → World → S → ℕ → Progress S A
  Halted : Halt → World → List AreaCells → Progress S A
  Exhausted : World → Progress S A

-- from the steps left, the world and a state
abbrev pub Part : Type 0 → Type 0 → Type 0
Part S A = ℕ → World → S → Progress S A

-- a value, for no step
abbrev pub give : {S A : Type 0} → A → Part S A
give a n w s = Finished a w s n

-- the run ends here; `see` is what the outside sees of a state
abbrev pub halt : {S A : Type 0} → (S → List AreaCells) → Halt → Part S A
halt see how n w s = Halted how w (see s)

-- goes on where a part has finished
abbrev pub after : {S A B : Type 0} → Progress S A → (A → Part S B) → Progress S B
after (Finished a w s n) next = next a n w s
after (Halted how w seen) next = Halted how w seen
after (Exhausted w) next = Exhausted w

-- one part, and the next with its value
abbrev pub bind : {S A B : Type 0} → Part S A → (A → Part S B) → Part S B
bind part next n w s = after (part n w s) next

-- one step, and then the part
abbrev pub tick : {S A : Type 0} → Part S A → Part S A
tick part zero w s = Exhausted w
tick part (suc n) w s = part n w s

-- so many steps, one by one, and then the part
abbrev pub ticks : {S A : Type 0} → ℕ → Part S A → Part S A
ticks zero part = part
ticks (suc k) part = tick (ticks k part)

-- a part that depends on the state in which it begins
abbrev pub by_state : {S A : Type 0} → (S → Part S A) → Part S A
by_state part n w s = part s n w s

-- a value and another state, for no step
abbrev pub change : {S A : Type 0} → A → (S → S) → Part S A
change a to n w s = Finished a w (to s) n

-- the state after a block, from the states at its start and at its end
abbrev pub left : {S A : Type 0} → (S → S → S) → S → Progress S A → Progress S A
left leave s (Finished a w u n) = Finished a w (leave s u) n
left leave s (Halted how w seen) = Halted how w seen
left leave s (Exhausted w) = Exhausted w

abbrev pub block : {S A : Type 0} → (S → S → S) → Part S A → Part S A
block leave part n w s = left leave s (part n w s)

-- the world in which a part came out
abbrev pub world_of : {S A : Type 0} → Progress S A → World
world_of (Finished a w s n) = w
world_of (Halted how w seen) = w
world_of (Exhausted w) = w

-- one event more
abbrev pub with_event : Event → World → World
with_event event w = record w { events = w.events ++ event ∷ [] }
