-- What the code's parts of a run say in the words of the meaning, and what it is that code comes out as a part of a run does.
use Rattle.std.specs.Prelude.{◌≡◌, ℤ, unsigned_abs, Option, Result, Ok, Err}
use Rattle.std.specs.Option.{option_map}
use Rattle.iv_words.specs.declared.Memory.{Memory as NoRoom}
use Rattle.run_records.specs.declared.Reason.{Reason}
use Rattle.run_records.specs.declared.Reason.TheVariants as reason
use Rattle.step_semantics.specs.Steps.{Part}
use Rattle.step_semantics.specs.Control as control
use Rattle.c_meaning.specs.State.{CState, seen}
use Rattle.c_meaning.specs.Memory.{CObjects}
use Rattle.c_meaning.specs.Values as meaning
use Rattle.c_meaning.specs.Values.{CValue}
use Rattle.c_meaning.specs.Calls as calls
use Rattle.c_objects.specs.declared.Fault.{Fault}
use Rattle.c_objects.specs.declared.Fault.TheVariants as fault
use Rattle.c_objects.specs.declared.Refusal.{Refusal}
use Rattle.c_objects.specs.declared.Refusal.TheVariants as refusal
use Rattle.c_operators.specs.Values.{value_of}
use Rattle.c_operators.specs.declared.Trouble.{Trouble}
use Rattle.c_operators.specs.declared.Trouble.TheVariants.{Undefined, Stuck, Memory}
use Rattle.c_expressions.specs.Programs.{Parts, program_of}
use Rattle.c_expressions.specs.State.{state_of}
use Rattle.run_world.specs.Comes.{Comes, world_of}
use Rattle.run_world.specs.declared.Halt.TheVariants.{FailedCheck, MissingReply, UnfitReply, NoMeaning}
use Rattle.run_world.specs.declared.Stopped.{Stopped}
use Rattle.run_world.specs.declared.Stopped.TheVariants as stopped
use Rattle.c_statements.specs.declared.parts.Run.{Run}
use Rattle.c_statements.specs.declared.parts.Control.{Control}
use Rattle.c_statements.specs.declared.parts.Control.TheVariants.{Falls, Broke, Returned}
use Rattle.c_statements.specs.declared.parts.Called.{Called}
use Rattle.c_statements.specs.declared.parts.Called.TheVariants.{Nothing, Missing, Gave}

-- ---- what parts come to

abbrev pub control_of : Control → control.Control (Option CValue)
control_of Falls = control.Falls
control_of Broke = control.Broke
control_of (Returned v) = control.Returned (option_map value_of v)

abbrev pub called_of : Called → calls.CallResult
called_of Nothing = calls.Nothing
called_of Missing = calls.Missing
called_of (Gave v) = calls.Gave (value_of v)

-- a run of the program, from one moment to another, comes out as the part does
abbrev pub Does : {A B : Type 0} → Parts → (B → A) → Part CState A → (old new : Run) → Result B Stopped → Type 0
Does p view part old new r = Comes (seen (program_of p)) view (part old.world.steps (world_of old.world) (state_of old.state)) r new.world (state_of new.state)

-- ---- trouble

-- how a run ends in trouble; one that is stuck is shown as one without a value
abbrev pub stop_of : Trouble → Stopped
stop_of (Undefined reason) = stopped.Halted (NoMeaning reason)
stop_of Stuck = stopped.Halted (NoMeaning reason.NoValue)
stop_of Memory = stopped.Memory

abbrev pub given : {A : Type 0} → Result A Trouble → Result A Stopped
given (Ok a) = Ok a
given (Err trouble) = Err (stop_of trouble)

-- why the memory does not answer
abbrev pub reason_of : Fault → Reason
reason_of fault.Dead = reason.Dead
reason_of fault.BadAccess = reason.BadAccess
reason_of fault.Indeterminate = reason.Indeterminate
reason_of fault.ConstWrite = reason.ConstWrite

abbrev pub trouble_of : Refusal → Trouble
trouble_of (refusal.Fault fault) = Undefined (reason_of fault)
trouble_of refusal.Memory = Memory

abbrev pub answered : {A : Type 0} → Result A Refusal → Result A Trouble
answered (Ok a) = Ok a
answered (Err refusal) = Err (trouble_of refusal)

-- what there is memory for
abbrev pub room : {A : Type 0} → Result A NoRoom → Result A Trouble
room (Ok a) = Ok a
room (Err memory) = Err Memory

-- ---- changes of the objects

-- The objects come to what is said, and all else stays; where there is none, nothing changes. Want of memory says nothing.
abbrev pub Alters : Result CObjects meaning.Trouble → (old new : CState) → Result (Unit {0}) Trouble → Type 0
Alters said old new (Ok done) = (said ≡ Ok new.objects) × (new ≡ record old { objects = new.objects })
Alters said old new (Err (Undefined reason)) = (said ≡ Err (meaning.Undefined reason)) × (new ≡ old)
Alters said old new (Err Stuck) = (said ≡ Err meaning.Stuck) × (new ≡ old)
Alters said old new (Err Memory) = Unit {0}

-- the run ends at the check of this number
abbrev pub FailsAt : ℤ → Stopped → Type 0
FailsAt site (stopped.Halted (FailedCheck k)) = k ≡ unsigned_abs site
FailsAt site (stopped.Halted MissingReply) = ⊥
FailsAt site (stopped.Halted UnfitReply) = ⊥
FailsAt site (stopped.Halted (NoMeaning reason)) = ⊥
FailsAt site stopped.Exhausted = ⊥
FailsAt site stopped.Memory = Unit {0}
