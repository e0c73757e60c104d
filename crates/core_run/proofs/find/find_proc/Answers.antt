use Rattle.std.proofs.Common.{arith}
use Rattle.core_run.proofs.Calls.{called_is, none_called}
use Rattle.core_run.proofs.find.find_proc.Goals as goal

pub returns-then-k-procs : goal.returns-then-k-procs
returns-then-k-procs c = called_is c.args.procs.now c.args.number c.found_at.result.earlier.now c.found_at.result.proc.now c.found_at.ensures.earlier c.found_at.ensures.proc

pub returns-else-k-procs : goal.returns-else-k-procs
returns-else-k-procs c = none_called c.args.procs.now c.args.number (omega (arith, c.if-k-procs.false))
