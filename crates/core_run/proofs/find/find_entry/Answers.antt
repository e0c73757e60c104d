use Rattle.core_run.proofs.Calls.{entered_is}
use Rattle.core_run.proofs.find.find_entry.Goals as goal

pub found_at-requires : goal.found_at-requires
found_at-requires c = c.in-Some.ensures.within

pub returns-in-Some : goal.returns-in-Some
returns-in-Some c = entered_is c.args.procs.now c.args.name.now c.in-Some.k c.found_at.result.earlier.now c.found_at.result.proc.now c.in-Some.ensures c.found_at.ensures.earlier c.found_at.ensures.proc
