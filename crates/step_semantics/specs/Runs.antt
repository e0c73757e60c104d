-- Whole runs: the entry calls of a script, in order, and what the outside sees of them.
use Rattle.std.specs.Prelude.{ℕ, ℤ, List, [], ◌∷◌, map, Option}
use Rattle.run_records.specs.declared.AreaCells.{AreaCells}
use Rattle.run_records.specs.declared.End.{End}
use Rattle.run_records.specs.declared.End.TheVariants.{Ended, Stopped, NoReply, BadReply, Going, Undefined}
use Rattle.run_records.specs.declared.EntryCall.{EntryCall}
use Rattle.run_records.specs.declared.Event.TheVariants.{Ret}
use Rattle.run_records.specs.declared.Outcome.{Outcome}
use Rattle.run_records.specs.declared.Script.{Script}
use Rattle.step_semantics.specs.Steps.{World, Halt, FailedCheck, MissingReply, UnfitReply, NoMeaning, Progress, Finished, Halted, Exhausted, Part, give, bind, tick, with_event}

-- what an exported procedure does where the outside calls it, up to its result, if it has one
abbrev pub Body : Type 0 → Type 0
Body S = EntryCall → Part S (Option ℤ)

-- the end of an entry call is seen
abbrev pub returned : {S A : Type 0} → List ℕ → Part S A → Option ℤ → Part S A
returned name next result n w s = next n (with_event (Ret name result) w) s

-- The entry calls in order: each takes a step, and then runs its procedure. Where no call is left the run has ended, for no
-- further step.
abbrev pub entry_calls : {S : Type 0} → Body S → List EntryCall → Part S (Unit {0})
entry_calls body [] = give tt
entry_calls body (call ∷ calls) = bind (tick (body call)) (returned call.name (entry_calls body calls))

abbrev pub end_of : Halt → End
end_of (FailedCheck site) = Stopped site
end_of MissingReply = NoReply
end_of UnfitReply = BadReply
end_of (NoMeaning reason) = Undefined reason

-- where there is no defined meaning, no area is seen
abbrev pub seen_at : Halt → List AreaCells → List AreaCells
seen_at (NoMeaning reason) seen = []
seen_at (FailedCheck site) seen = seen
seen_at MissingReply seen = seen
seen_at UnfitReply seen = seen

-- what the outside sees of a run; it goes on where its steps are used up
abbrev pub outcome : {S A : Type 0} → (S → List AreaCells) → Progress S A → Outcome
outcome see (Finished a w s n) = record { events = w.events; end = Ended; areas = see s }
outcome see (Halted how w seen) = record { events = w.events; end = end_of how; areas = seen_at how seen }
outcome see (Exhausted w) = record { events = w.events; end = Going; areas = [] }

-- before the first call nothing has happened, and no reply is taken
abbrev pub start : Script → World
start script = record { events = []; replies = map (λ reply. reply.values) script.replies }

-- the run of a script from a first state, with so many steps in all
abbrev pub run : {S : Type 0} → (S → List AreaCells) → Body S → S → Script → ℕ → Outcome
run see body first script n = outcome see (entry_calls body script.calls n (start script) first)
