-- What the steps of a call answer to one another: the loads, the reading, the compilation or the run, the writing, and the report of a refusal.
use Rattle.std.specs.Prelude.{◌≡◌, ℕ, ◌+◌, ◌≤◌, ◌<◌, ◌⊎◌, List, length, Option, Some, None, Result, Ok, Err}
use Rattle.iv_base.specs.Stores.{FileMap, text_of}
use Rattle.run_records.specs.Scripts.{Fits}
use Rattle.run_records.specs.declared.Export.{Export}
use Rattle.run_records.specs.declared.Script.{Script}
use Rattle.iv_script.specs.Fit.{fit_of}
use Rattle.iv_script.specs.ScriptText.{script_limit, script_of}
use Rattle.iv_script.specs.declared.ScriptFault.{ScriptFault}
use Rattle.first_form.specs.declared.FirstModule.{FirstModule}
use Rattle.core_tree.specs.Cores.{Parts, core_of}
use Rattle.c_ast.specs.declared.CUnit.{CUnit}
use Rattle.c_ast.specs.declared.Target.TheVariants.{T32}
use Rattle.c_ast.specs.View.{unit_of}
use Rattle.c_text.specs.Faults.{HasFault}
use Rattle.c_text.specs.ReadsBack.{ReadsBack}
use Rattle.c_text.specs.declared.CFault.{CFault}
use Rattle.c_lower.specs.Compiled.{Compiled}
use Rattle.ivoryc.specs.declared.command.Command.{Command}
use Rattle.ivoryc.specs.declared.c_fault.CTextFault.{CTextFault}
use Rattle.ivoryc.specs.declared.input_fault.InputFault.TheVariants as input
use Rattle.ivoryc.specs.declared.refusal.Refusal.{Refusal}
use Rattle.ivoryc.specs.declared.refusal.Refusal.TheVariants as refusal
use Rattle.ivoryc.specs.declared.status.Status.{Status}
use Rattle.ivoryc.specs.declared.status.Status.TheVariants as status
use Rattle.ivoryc.specs.declared.command.Command.TheVariants.{Big}
use Rattle.ivoryc.specs.Commands.{command, most_procedures}
use Rattle.ivoryc.specs.Texts.{usage_line, read_fault_line, memory_line}
use Rattle.ivoryc.specs.Causes.{placed, status_of, line_of, answer_of}
use Rattle.ivoryc.specs.Calls.{StoreSeen, SinkSeen, Change, Unchanged, Unread, Took, FailedAt, StandsUnder}
use Rattle.ivoryc.specs.Modules.{IsWellTyped, StandsFor, IsNoModule}
use Rattle.ivoryc.specs.Headline.{FirstForm, IsOfNoFirstForm, IsUnbuilt}
use Rattle.ivoryc.specs.Allowed.{Answer, Allows}
use Rattle.ivoryc.specs.Answers.{Comes}
use Rattle.ivoryc.specs.Promise.{files_named, files_due}

-- ---- commands

-- a number of procedures is one that a generated module can have
abbrev pub IsSized : Option Command → Type 0
IsSized (Some (Big k)) = (1 ≤ k) × (k ≤ most_procedures)
IsSized _ = Unit {0}

-- ---- loads

-- so many loads at most, and the store still holds what it held
pub record LoadsAtMost (most : ℕ) (store : Change StoreSeen) : Type 0 where
  pub loads : store.after.loads ≤ store.before.loads + most
  pub holds : store.after.holds ≡ store.before.holds
  pub later : store.before.faults ≤ store.after.faults

-- the whole text under the name, which is within the limit
pub record IsWhole (file : List ℕ) (most : ℕ) (store : Change StoreSeen) (text : List ℕ) : Type 0 where
  pub stands : StandsUnder store.before.holds file text
  pub short : length text ≤ most

-- the text under the name is longer
pub record IsTooLong (file : List ℕ) (most : ℕ) (store : Change StoreSeen) : Type 0 where
  pub text : List ℕ
  pub stands : StandsUnder store.before.holds file text
  pub long : most < length text

-- the text, or why there is none
abbrev pub Loaded : List ℕ → ℕ → Change StoreSeen → Result (List ℕ) Refusal → Type 0
Loaded file most store (Ok text) = IsWhole file most store text
Loaded file most store (Err refusal.ReadFault) = Unread store
Loaded file most store (Err refusal.Memory) = Unit {0}
Loaded file most store (Err (refusal.Input input.TooLarge)) = IsTooLong file most store
Loaded file most store (Err _) = ⊥

-- as many as the command's files, and none behind the first refusal
pub record LoadsFor (asked : Command) (store : Change StoreSeen) : Type 0 where
  pub most : LoadsAtMost (files_named (Some asked)) store
  pub due : (files : FileMap) → store.before.holds ≡ Some files → store.after.loads ≤ store.before.loads + files_due files (Some asked)

-- two loads, of which the second comes only where the first text is within its limit
pub record LoadsBoth (file : List ℕ) (most : ℕ) (store : Change StoreSeen) : Type 0 where
  pub two : LoadsAtMost 2 store
  pub due : (files : FileMap) → store.before.holds ≡ Some files → most < length (text_of (files file)) → store.after.loads ≤ store.before.loads + 1

-- a text and that of a script
pub record AreWhole (file : List ℕ) (most : ℕ) (script : List ℕ) (store : Change StoreSeen) (texts : List ℕ × List ℕ) : Type 0 where
  pub text_whole : IsWhole file most store texts.0
  pub script_whole : IsWhole script script_limit store texts.1

-- the second is too long, and the first is not
pub record IsScriptTooLong (file : List ℕ) (most : ℕ) (script : List ℕ) (store : Change StoreSeen) : Type 0 where
  pub text : List ℕ
  pub whole : IsWhole file most store text
  pub long : IsTooLong script script_limit store

abbrev pub BothLoaded : (file : List ℕ) (most : ℕ) (script : List ℕ) → Change StoreSeen → Result (List ℕ × List ℕ) Refusal → Type 0
BothLoaded file most script store (Ok texts) = AreWhole file most script store texts
BothLoaded file most script store (Err refusal.ReadFault) = Unread store
BothLoaded file most script store (Err refusal.Memory) = Unit {0}
BothLoaded file most script store (Err (refusal.Input input.TooLarge)) = IsTooLong file most store ⊎ IsScriptTooLong file most script store
BothLoaded file most script store (Err _) = ⊥

-- ---- module texts

-- why a text is that of no well typed module
abbrev pub NoModule : List ℕ → Refusal → Type 0
NoModule text refusal.Memory = Unit {0}
NoModule text (refusal.Input f) = IsNoModule text (status_of f) (line_of f)
NoModule text _ = ⊥

-- that of one, or why it is that of none
abbrev pub Checked : List ℕ → Result (Unit {0}) Refusal → Type 0
Checked text (Ok done) = IsWellTyped text
Checked text (Err why) = NoModule text why

-- with the core
abbrev pub ReadCore : List ℕ → Result Parts Refusal → Type 0
ReadCore text (Ok core) = StandsFor text (core_of core)
ReadCore text (Err why) = NoModule text why

-- ---- compilation

-- a unit for the module that the text stands for
pub record IsUnitOf (text : List ℕ) (u : CUnit) : Type 0 where
  pub core : FirstModule
  pub form : FirstForm text core
  pub compiled : Compiled core (unit_of u) T32

-- why there is none
abbrev pub NoUnit : List ℕ → Refusal → Type 0
NoUnit text refusal.Memory = Unit {0}
NoUnit text (refusal.Input input.NotBuilt) = IsUnbuilt text
NoUnit text (refusal.Input f) = IsOfNoFirstForm text × IsNoModule text (status_of f) (line_of f)
NoUnit text _ = ⊥

abbrev pub Made : List ℕ → Result CUnit Refusal → Type 0
Made text (Ok u) = IsUnitOf text u
Made text (Err why) = NoUnit text why

-- ---- scripts

-- a script that the text says and that fits
pub record IsScript (exports : List Export) (said : List ℕ) (s : Script) : Type 0 where
  pub says : script_of said ≡ Ok s
  pub fits : Fits s exports

-- the text says no script, or one that does not fit
pub data IsScriptFault (exports : List Export) (said : List ℕ) (fault : ScriptFault) : Type 0 where
  unread : script_of said ≡ Err fault → IsScriptFault exports said fault
  unfit : {s : Script} → script_of said ≡ Ok s → fit_of s.calls exports ≡ Err fault → IsScriptFault exports said fault

abbrev pub ScriptFor : List Export → List ℕ → Result Script Refusal → Type 0
ScriptFor exports said (Ok s) = IsScript exports said s
ScriptFor exports said (Err (refusal.Input (input.Script f))) = IsScriptFault exports said f
ScriptFor exports said (Err refusal.Memory) = Unit {0}
ScriptFor exports said (Err _) = ⊥

-- ---- units of C

-- a fault of a C text, at its line and column
pub record IsCFault (text : List ℕ) (told : CTextFault) : Type 0 where
  pub fault : CFault
  pub is : HasFault T32 text fault
  pub at : told ≡ placed text fault

abbrev pub ReadC : List ℕ → Result CUnit Refusal → Type 0
ReadC text (Ok u) = ReadsBack (unit_of u) text T32
ReadC text (Err (refusal.Input (input.CText f))) = IsCFault text f
ReadC text (Err refusal.Memory) = Unit {0}
ReadC text (Err _) = ⊥

-- ---- writing

-- the output took the text, or failed at it; want of memory comes before
abbrev pub Written : List ℕ → Change SinkSeen → Result (Unit {0}) Refusal → Type 0
Written text out (Ok done) = Took out text
Written text out (Err refusal.WriteFault) = FailedAt out text
Written text out (Err refusal.Memory) = Unchanged out
Written text out (Err _) = ⊥

-- ---- what came of texts

-- bytes that such an answer lets be written, with what was done to the output
pub record Wrote (Is : Answer → Type 0) (Done : List ℕ → Type 0) : Type 0 where
  pub answer : Answer
  pub is : Is answer
  pub bytes : List ℕ
  pub allowed : Allows answer bytes
  pub done : Done bytes

-- such an answer came, or want of memory, or a failure of the output
abbrev pub Does : (Answer → Type 0) → Change SinkSeen → Result (Unit {0}) Refusal → Type 0
Does Is out (Ok done) = Wrote Is (Took out)
Does Is out (Err refusal.WriteFault) = Wrote Is (FailedAt out)
Does Is out (Err refusal.Memory) = Unchanged out
Does Is out (Err (refusal.Input fault)) = Is (answer_of fault) × Unchanged out
Does Is out (Err _) = ⊥

-- ---- a command

abbrev pub ComesOver : Change StoreSeen → Command → Answer → Type 0
ComesOver store asked a = Comes (StandsUnder store.before.holds) asked a

abbrev pub Performed : Command → Change StoreSeen → Change SinkSeen → Result (Unit {0}) Refusal → Type 0
Performed asked store out (Ok done) = Wrote (ComesOver store asked) (Took out)
Performed asked store out (Err refusal.WriteFault) = Wrote (ComesOver store asked) (FailedAt out)
Performed asked store out (Err refusal.Words) = ⊥
Performed asked store out (Err refusal.ReadFault) = Unread store × Unchanged out
Performed asked store out (Err refusal.Memory) = Unchanged out
Performed asked store out (Err (refusal.Input fault)) = ComesOver store asked (answer_of fault) × Unchanged out

-- ---- a call

-- no command, a command that was done or refused, or want of memory before one was known
pub data Ran (words : List (List ℕ)) (store : Change StoreSeen) (out : Change SinkSeen) : Result (Unit {0}) Refusal → Type 0 where
  no_command : command words ≡ None → Unchanged store → Unchanged out → Ran words store out (Err refusal.Words)
  performed : {result : Result (Unit {0}) Refusal} (asked : Command) → command words ≡ Some asked → LoadsFor asked store → Performed asked store out result
      → Ran words store out result
  no_memory : Unchanged store → Unchanged out → Ran words store out (Err refusal.Memory)

-- the status comes with its line, and gives way to a failure of the output
abbrev pub Tells : List ℕ → Status → Status → Change SinkSeen → Type 0
Tells line wanted s err = ((s ≡ wanted) × Took err line) ⊎ ((s ≡ status.WriteFault) × FailedAt err line)

abbrev pub Reported : Refusal → Status → Change SinkSeen → Type 0
Reported refusal.Words s err = Tells usage_line status.Words s err
Reported refusal.ReadFault s err = Tells read_fault_line status.ReadFault s err
Reported refusal.WriteFault s err = (s ≡ status.WriteFault) × Unchanged err
Reported refusal.Memory s err = (s ≡ status.Memory) × (Took err memory_line ⊎ FailedAt err memory_line)
Reported (refusal.Input fault) s err = Tells (line_of fault) (status_of fault) s err
