-- When a run ends with a meaning, and when a sink may be said to have refused its report.
use Rattle.std.specs.Prelude.{◌≡◌, ◌≢◌, ℕ, ◌≤◌, Result, Err}
use Rattle.iv_base.specs.Counts.{Rose}
use Rattle.run_records.specs.declared.End.{End}
use Rattle.run_records.specs.declared.End.TheVariants.{Undefined}
use Rattle.run_records.specs.declared.Reason.{Reason}
use Rattle.core_run.specs.declared.ready.RunError.{RunError}
use Rattle.core_run.specs.declared.ready.RunError.TheVariants.{SinkFault}

-- its count of faults never falls, and a fault comes only where it rose
pub record HasSinkCause (before now : ℕ) (result : Result End RunError) : Type 0 where
  pub later : before ≤ now
  pub failed : result ≡ Err SinkFault → Rose before now

-- the run has not ended undefined, for whatever reason
abbrev pub IsDefined : End → Type 0
IsDefined end = (reason : Reason) → end ≢ Undefined reason
