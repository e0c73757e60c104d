use Rattle.core_run.proofs.Calls.{EntryFrom}
use Rattle.core_run.proofs.find.place_entered.Given as goal

abbrev pub invariant-loop-k : goal.invariant-loop-k
invariant-loop-k l = EntryFrom l.procs l.name l.k
