-- What code keeps of the outside of a run, in the words of the meanings, and what it is that code comes out of a part of a run as the
-- meaning of that part does.
use Rattle.std.specs.Prelude.{ℕ, suc, ◌+◌, ◌<◌, ◌≡◌, ℤ, Bool, true, false, List, [], drop, Option, Some, None, Result, Ok, Err}
use Rattle.run_records.specs.declared.AreaCells.{AreaCells}
use Rattle.run_records.specs.declared.End.{End}
use Rattle.run_records.specs.declared.End.TheVariants as end
use Rattle.step_semantics.specs.Steps as steps
use Rattle.step_semantics.specs.Steps.{Progress, Finished, Halted, Exhausted}
use Rattle.step_semantics.specs.Runs.{end_of}
use Rattle.run_world.specs.declared.stopped.Halt.{Halt}
use Rattle.run_world.specs.declared.stopped.Halt.TheVariants.{FailedCheck, MissingReply, UnfitReply, NoMeaning}
use Rattle.run_world.specs.declared.stopped.Stopped.{Stopped}
use Rattle.run_world.specs.declared.stopped.Stopped.TheVariants as stopped
use Rattle.run_world.specs.declared.world.World.{World}

-- ---- the outside

-- the events so far, and the replies that are left
abbrev pub world_of : World → steps.World
world_of w = record { events = w.events; replies = drop w.taken w.replies }

abbrev pub halt_of : Halt → steps.Halt
halt_of (FailedCheck site) = steps.FailedCheck site
halt_of MissingReply = steps.MissingReply
halt_of UnfitReply = steps.UnfitReply
halt_of (NoMeaning reason) = steps.NoMeaning reason

-- ---- parts

-- The part comes out as the code does, which leaves this world and this state: with the value that is seen of the code's, halted, or out
-- of steps. For want of memory nothing is said.
abbrev pub Comes : {S A B : Type 0} → (S → List AreaCells) → (B → A) → Progress S A → Result B Stopped → World → S → Type 0
Comes see view part (Ok b) w s = part ≡ Finished (view b) (world_of w) s w.steps
Comes see view part (Err (stopped.Halted how)) w s = part ≡ Halted (halt_of how) (world_of w) (see s)
Comes see view part (Err stopped.Exhausted) w s = part ≡ Exhausted (world_of w)
Comes see view part (Err stopped.Memory) w s = Unit {0}

-- one step is taken, or there was none
abbrev pub Ticked : {A : Type 0} → Result A Stopped → (old new : World) → Type 0
Ticked (Ok a) old new = old ≡ record new { steps = suc new.steps }
Ticked (Err (stopped.Halted how)) old new = ⊥
Ticked (Err stopped.Exhausted) old new = (new ≡ old) × (old.steps ≡ 0)
Ticked (Err stopped.Memory) old new = ⊥

-- so many steps are taken, or there were fewer
abbrev pub TicksTaken : {A : Type 0} → ℕ → Result A Stopped → (old new : World) → Type 0
TicksTaken count (Ok a) old new = old ≡ record new { steps = count + new.steps }
TicksTaken count (Err (stopped.Halted how)) old new = ⊥
TicksTaken count (Err stopped.Exhausted) old new = (new ≡ old) × (old.steps < count)
TicksTaken count (Err stopped.Memory) old new = ⊥

-- where no state is seen
abbrev pub unseen : Unit {0} → List AreaCells
unseen nothing = []

abbrev pub itself : {A : Type 0} → A → A
itself a = a

-- ---- ends

-- the end of a run whose calls came out so, but for want of memory
abbrev pub end_after : {A : Type 0} → Result A Stopped → Option End
end_after (Ok a) = Some end.Ended
end_after (Err (stopped.Halted how)) = Some (end_of (halt_of how))
end_after (Err stopped.Exhausted) = Some end.Going
end_after (Err stopped.Memory) = None

abbrev pub shows_areas : End → Bool
shows_areas end.Ended = true
shows_areas (end.Stopped site) = true
shows_areas end.NoReply = true
shows_areas end.BadReply = true
shows_areas end.Going = false
shows_areas (end.Undefined reason) = false
