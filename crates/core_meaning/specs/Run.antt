-- Procedures, entry calls, and the whole run of a module.
use Rattle.std.specs.Prelude.{ℕ, suc, ℤ, List, [], ◌∷◌, map, Option, Some, None, ◌==◌, ◌&&◌, if◌then◌else◌}
use Rattle.iv_words.specs.Words.{same_word}
use Rattle.run_records.specs.declared.Outcome.{Outcome}
use Rattle.run_records.specs.declared.Script.{Script}
use Rattle.step_semantics.specs.Steps.{Part, give, bind}
use Rattle.step_semantics.specs.Control.{Falls, Broke, Returned}
use Rattle.step_semantics.specs.Frames.{in_frame}
use Rattle.step_semantics.specs.Runs.{Body, run}
use Rattle.area_types.specs.Syntax.{Name}
use Rattle.core_tree.specs.Syntax.{ModuleCore, ProcCore}
use Rattle.core_meaning.specs.Values.{Value, Num, Ref}
use Rattle.core_meaning.specs.State.{State, seen, enter, back, first_state}
use Rattle.core_meaning.specs.Checks.{formless}
use Rattle.core_meaning.specs.Conditions.{required, Ensured, ensured}
use Rattle.core_meaning.specs.Calls.{Calls, no_procedures}
use Rattle.core_meaning.specs.Statements.{Flow, exec_all}

-- ---- procedures

-- where a body falls off its end, for no step, what is ensured is tested there
abbrev pub result_of : ModuleCore → Ensured → Flow → Part State (Option Value)
result_of core ensured Falls = bind (ensured None) (λ t. give None)
result_of core ensured (Returned result) = give result
result_of core ensured Broke = formless core

-- what it requires, in order, and then its body
abbrev pub body_of : ModuleCore → Calls → ProcCore → Part State (Option Value)
body_of core earlier p = bind (required core p) (λ t. bind (exec_all core earlier (ensured core p) p.body) (result_of core (ensured core p)))

-- a procedure that is called with these values, once the call's step is taken
abbrev pub procedure_call : ModuleCore → Calls → ProcCore → List Value → Part State (Option Value)
procedure_call core earlier p args = in_frame (enter args) back (body_of core earlier p)

-- one procedure more that those after it may call, by its number
abbrev pub with_procedure : ModuleCore → Calls → (number : ℕ) → ProcCore → Calls
with_procedure core earlier number p callee args = if number == callee then procedure_call core earlier p args else earlier callee args

-- ---- entry calls

abbrev pub entry_result : ModuleCore → Option Value → Part State (Option ℤ)
entry_result core None = give None
entry_result core (Some (Num v)) = give (Some v)
entry_result core (Some (Ref area path)) = formless core

-- the exported procedure of this name, among those from this number on; it may call those before it
abbrev pub entry_among : ModuleCore → Calls → (number : ℕ) → List ProcCore → Name → List ℤ → Part State (Option ℤ)
entry_among core earlier number [] name values = formless core
entry_among core earlier number (p ∷ procs) name values =
    if p.exported && same_word p.name name then bind (procedure_call core earlier p (map Num values)) (entry_result core)
    else entry_among core (with_procedure core earlier number p) (suc number) procs name values

-- the step of an entry call is taken by the run
abbrev pub entry : ModuleCore → Body State
entry core entry_call = entry_among core (no_procedures core) 0 core.procs entry_call.name entry_call.values

-- ---- runs

-- what the outside sees of a script's run, with n steps in all
abbrev pub run_src : ModuleCore → Script → ℕ → Outcome
run_src core script n = run (seen core) (entry core) (first_state core) script n
