-- One call of the outside.
use Rattle.std.specs.Prelude.{ℤ, Result, Ok, Err}
use Rattle.run_records.specs.declared.EntryCall.{EntryCall}
use Rattle.step_semantics.specs.Steps.{Part, give, bind, tick}
use Rattle.step_semantics.specs.Runs.{returned}
use Rattle.c_ast.specs.declared.CKind.TheVariants.{Scalar}
use Rattle.c_ast.specs.declared.CType.{CType}
use Rattle.c_ast.specs.declared.CType.TheVariants.{Void, Value, Pointer}
use Rattle.c_meaning.specs.Runs.{entry}
use Rattle.c_meaning.specs.State.{Program, CState}
use Rattle.c_meaning.specs.Values.{Trouble, Stuck, CValue, Num}

-- its step, the call, and its end, which is seen
abbrev pub entry_step : Program → EntryCall → Part CState (Unit {0})
entry_step p call = bind (tick (entry p call)) (returned call.name (give (tt {0})))

-- a number of the script as the value of a parameter
abbrev pub number_as : CType → ℤ → Result CValue Trouble
number_as (Value s) v = Ok (Num (Scalar s) v)
number_as Void v = Err Stuck
number_as (Pointer constant base) v = Err Stuck
