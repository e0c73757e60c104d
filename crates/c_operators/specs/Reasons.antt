-- Why an operator on numbers of C has no answer, from why one on whole numbers has none.
use Rattle.std.specs.Prelude.{ℤ, Result, Ok, Err}
use Rattle.int_ops.specs.declared.Stop.{Stop}
use Rattle.int_ops.specs.declared.Stop.TheVariants as stop
use Rattle.run_records.specs.declared.Reason.{Reason}
use Rattle.run_records.specs.declared.Reason.TheVariants as reason

abbrev pub or_reason : Result ℤ Stop → Result ℤ Reason
or_reason (Ok v) = Ok v
or_reason (Err stop.Overflow) = Err reason.SignedOverflow
or_reason (Err stop.DivZero) = Err reason.DivZero
or_reason (Err stop.Shift) = Err reason.Shift
