-- What the outside sees of a whole run.
use Rattle.std.proofs.Common.{◌≡◌, ℕ, List, [], Some, Result, Ok, Err, sym, ap, ◌∙◌, if◌then◌else◌}
use Rattle.run_records.specs.declared.AreaCells.{AreaCells}
use Rattle.run_records.specs.declared.End.{End}
use Rattle.run_records.specs.declared.Outcome.{Outcome}
use Rattle.run_records.specs.declared.Script.{Script}
use Rattle.step_semantics.specs.Runs.{entry_calls, start, run}
use Rattle.step_semantics.specs.Runs.{outcome}
use Rattle.c_meaning.specs.Runs.{entry, run_from}
use Rattle.c_meaning.specs.Values as meaning
use Rattle.c_operators.specs.Values.{Gives}
use Rattle.c_operators.specs.declared.Trouble.{Trouble}
use Rattle.c_operators.specs.declared.Trouble.TheVariants.{Undefined, Stuck, Memory}
use Rattle.c_statements.specs.Parts.{given}
use Rattle.run_records.specs.declared.End.TheVariants as end
use Rattle.run_records.specs.declared.Reason.TheVariants.{NoValue}
use Rattle.c_meaning.specs.State.{CState, seen}
use Rattle.c_expressions.specs.Programs.{Parts, program_of}
use Rattle.run_world.specs.Comes.{Comes, world_of, itself, end_after, shows_areas}
use Rattle.run_world.specs.declared.Stopped.{Stopped}
use Rattle.run_world.specs.declared.World.{World}
use Rattle.run_world.proofs.Comes.{outcome_comes}

pub run_is : (p : Parts) (script : Script) (first new : CState) (old w : World) (n : ℕ) (r : Result (Unit {0}) Stopped) (e : End) (areas : List AreaCells) → world_of old ≡ start script → old.steps ≡ n → end_after r ≡ Some e
    → Comes (seen (program_of p)) itself (entry_calls (entry (program_of p)) script.calls old.steps (world_of old) first) r w new → areas ≡ (if shows_areas e then seen (program_of p) new else [])
    → record { events = w.events; end = e; areas = areas } ≡ run (seen (program_of p)) (entry (program_of p)) first script n
run_is p script first new old w n r e areas is steps ends comes are =
    let made : List AreaCells → Outcome = λ a. record { events = w.events; end = e; areas = a } in
    ap made are ∙ sym (outcome_comes (seen (program_of p)) itself (entry_calls (entry (program_of p)) script.calls old.steps (world_of old) first) r w new e ends comes)
    ∙ ap (λ k. outcome (seen (program_of p)) (entry_calls (entry (program_of p)) script.calls k (world_of old) first)) steps ∙ ap (λ v. outcome (seen (program_of p)) (entry_calls (entry (program_of p)) script.calls n v first)) is

abbrev nothing : Stopped → Result (Unit {0}) Stopped
nothing why = Err why

abbrev empty : End → Outcome
empty e = record { events = []; end = e; areas = [] }

-- where an initializer of file scope has no meaning
pub no_run : {A : Type 0} (p : Parts) (script : Script) (n : ℕ) (view : A → CState) (said : Result CState meaning.Trouble) (f : Result A Trouble) (why : Stopped) (e : End) → Gives (Unit {0}) view said f → Err why ≡ given f → end_after (nothing why) ≡ Some e
    → record { events = []; end = e; areas = [] } ≡ run_from (program_of p) said script n
no_run p script n view said (Ok a) why e h is ends = absurd (cc)
no_run p script n view said (Err (Undefined reason)) why e h is ends =
    let k : e ≡ end.Undefined reason = cc in
    ap empty k ∙ ap (λ s. run_from (program_of p) s script n) (sym h)
no_run p script n view said (Err Stuck) why e h is ends =
    let k : e ≡ end.Undefined NoValue = cc in
    ap empty k ∙ ap (λ s. run_from (program_of p) s script n) (sym h)
no_run p script n view said (Err Memory) why e h is ends = absurd (cc)
