-- What the outside sees of a whole run.
use Rattle.std.proofs.Common.{◌≡◌, ℕ, List, [], Some, Result, sym, ap, ◌∙◌, if◌then◌else◌}
use Rattle.run_records.specs.declared.AreaCells.{AreaCells}
use Rattle.run_records.specs.declared.End.{End}
use Rattle.run_records.specs.declared.Outcome.{Outcome}
use Rattle.run_records.specs.declared.Script.{Script}
use Rattle.step_semantics.specs.Runs.{entry_calls, outcome, start}
use Rattle.core_tree.specs.Syntax.{ModuleCore}
use Rattle.core_meaning.specs.Run.{entry, run_src}
use Rattle.core_meaning.specs.State.{State, first_state, seen}
use Rattle.run_world.specs.Comes.{Comes, world_of, itself, end_after, shows_areas}
use Rattle.run_world.specs.declared.Stopped.{Stopped}
use Rattle.run_world.specs.declared.World.{World}
use Rattle.run_world.proofs.Comes.{outcome_comes}

pub run_is : (core : ModuleCore) (script : Script) (first new : State) (old w : World) (n : ℕ) (r : Result (Unit {0}) Stopped) (e : End) (areas : List AreaCells) → first ≡ first_state core → world_of old ≡ start script → old.steps ≡ n → end_after r ≡ Some e
    → Comes (seen core) itself (entry_calls (entry core) script.calls old.steps (world_of old) first) r w new → areas ≡ (if shows_areas e then seen core new else []) → record { events = w.events; end = e; areas = areas } ≡ run_src core script n
run_is core script first new old w n r e areas begins is steps ends comes are =
    let made : List AreaCells → Outcome = λ a. record { events = w.events; end = e; areas = a } in
    ap made are ∙ sym (outcome_comes (seen core) itself (entry_calls (entry core) script.calls old.steps (world_of old) first) r w new e ends comes)
    ∙ ap (λ k. outcome (seen core) (entry_calls (entry core) script.calls k (world_of old) first)) steps ∙ ap (λ v. outcome (seen core) (entry_calls (entry core) script.calls n v first)) is
    ∙ ap (λ s. outcome (seen core) (entry_calls (entry core) script.calls n (start script) s)) begins
