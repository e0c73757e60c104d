-- What a module does, step for step. So far a module has imports without results, and exported procedures without parameters,
-- whose statements are calls of imports with constants. It has no areas and no names, so a state holds nothing.
use Rattle.std.specs.Prelude.{ℕ, ℤ, pos, List, [], ◌∷◌, map, Option, Some, None, slice_get, if◌then◌else◌}
use Rattle.run_records.specs.declared.Reason.TheVariants.{Dead}
use Rattle.run_records.specs.declared.AreaCells.{AreaCells}
use Rattle.run_records.specs.declared.Piece.{Piece}
use Rattle.run_records.specs.declared.Piece.TheVariants.{Value}
use Rattle.run_records.specs.declared.Export.{Export}
use Rattle.run_records.specs.declared.Outcome.{Outcome}
use Rattle.run_records.specs.declared.Script.{Script}
use Rattle.iv_words.specs.Words.{same_word}
use Rattle.step_semantics.specs.Steps.{NoMeaning, Part, give, halt, bind, tick}
use Rattle.step_semantics.specs.Control.{Control, Falls, Broke, Returned, also}
use Rattle.step_semantics.specs.Imports.{import_call}
use Rattle.step_semantics.specs.Runs.{Body, run}
use Rattle.first_form.specs.declared.FirstModule.{FirstModule}
use Rattle.first_form.specs.declared.FirstImport.{FirstImport}
use Rattle.first_form.specs.declared.FirstProc.{FirstProc}
use Rattle.first_form.specs.declared.FirstCall.{FirstCall}

abbrev pub State : Type 0
State = Unit {0}

-- the cells of each area
abbrev pub observed : State → List AreaCells
observed s = []

-- the arguments of a call, as the outside sees them
abbrev pub pieces : List ℕ → List Piece
pieces values = map (λ v. Value (pos v)) values

-- Constants take no step. Then the call takes one, and the import acts: it gives nothing back, so its reply has no shape.
-- There is no meaning where there is no such import.
abbrev pub call_of : Option FirstImport → List ℕ → Part State (Control (Option ℤ))
call_of None values = halt observed (NoMeaning Dead)
call_of (Some i) values = tick (bind (import_call observed i.name (pieces values) []) (λ reply. give Falls))

abbrev pub exec : List FirstImport → FirstCall → Part State (Control (Option ℤ))
exec imports c = call_of (slice_get imports c.import) c.values

abbrev pub execs : List FirstImport → List FirstCall → Part State (Control (Option ℤ))
execs imports [] = give Falls
execs imports (c ∷ cs) = also (exec imports c) (execs imports cs)

-- what a body gives its caller
abbrev pub result_of : Control (Option ℤ) → Option ℤ
result_of Falls = None
result_of Broke = None
result_of (Returned value) = value

-- the first procedure of the name
abbrev pub proc_of : List ℕ → List FirstProc → Option FirstProc
proc_of name [] = None
proc_of name (p ∷ ps) = if same_word p.name name then Some p else proc_of name ps

abbrev pub entered : List FirstImport → Option FirstProc → Part State (Option ℤ)
entered imports None = halt observed (NoMeaning Dead)
entered imports (Some p) = bind (execs imports p.calls) (λ control. give (result_of control))

-- an entry call: its step is taken by the run
abbrev pub enter : FirstModule → Body State
enter m call = entered m.imports (proc_of call.name m.procs)

-- what the outside sees of a script's run, with n steps in all
abbrev pub run_src : FirstModule → Script → ℕ → Outcome
run_src m script n = run observed (enter m) tt script n

abbrev pub export_for : FirstProc → Export
export_for p = record { name = p.name; params = []; result = None }

-- what the outside may call: the exported procedures, in order
abbrev pub exports_of : FirstModule → List Export
exports_of m = map export_for m.procs
