-- One call of the outside.
use Rattle.std.specs.Prelude.{ℤ, List, map, Option}
use Rattle.run_records.specs.declared.EntryCall.{EntryCall}
use Rattle.step_semantics.specs.Runs.{returned}
use Rattle.step_semantics.specs.Steps.{Part, give, bind, tick}
use Rattle.core_tree.specs.Syntax.{ModuleCore, ProcCore}
use Rattle.core_meaning.specs.Calls.{Calls}
use Rattle.core_meaning.specs.Run.{procedure_call, entry, entry_result}
use Rattle.core_meaning.specs.State.{State}
use Rattle.core_meaning.specs.Values.{Num}

-- a procedure is called with numbers of the script
abbrev pub entered : ModuleCore → Calls → ProcCore → List ℤ → Part State (Option ℤ)
entered core earlier p values = bind (procedure_call core earlier p (map Num values)) (entry_result core)

-- a call's step, the call, and its end, which is seen
abbrev pub entry_step : ModuleCore → EntryCall → Part State (Unit {0})
entry_step core call = bind (tick (entry core call)) (returned call.name (give (tt {0})))
