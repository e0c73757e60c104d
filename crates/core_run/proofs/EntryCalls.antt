-- Calls of the outside, one after another.
use Rattle.std.proofs.Common.{◌≡◌, ℕ, ℤ, List, ◌∷◌, Option, refl}
use Rattle.run_records.specs.declared.EntryCall.{EntryCall}
use Rattle.step_semantics.specs.Steps as steps
use Rattle.step_semantics.specs.Steps.{Part, Progress, Finished, Halted, Exhausted, after, tick, give}
use Rattle.step_semantics.specs.Runs.{returned, entry_calls}
use Rattle.core_tree.specs.Syntax.{ModuleCore}
use Rattle.core_meaning.specs.Run.{entry}
use Rattle.core_meaning.specs.State.{State}
use Rattle.core_run.specs.Entries.{entry_step}

abbrev done : Part State (Unit {0})
done = give (tt {0})

then_seen : (name : List ℕ) (rest : Part State (Unit {0})) (r : Progress State (Option ℤ)) → after r (returned name rest) ≡ after (after r (returned name done)) (λ u. rest)
then_seen name rest (Finished a w s n) = refl
then_seen name rest (Halted how w seen) = refl
then_seen name rest (Exhausted w) = refl

pub calls_split : (core : ModuleCore) (call : EntryCall) (calls : List EntryCall) (n : ℕ) (w : steps.World) (s : State) → entry_calls (entry core) (call ∷ calls) n w s ≡ after (entry_step core call n w s) (λ u. entry_calls (entry core) calls)
calls_split core call calls n w s = then_seen call.name (entry_calls (entry core) calls) (tick (entry core call) n w s)
