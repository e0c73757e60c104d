use Rattle.c_run.proofs.Calls.{Latest}
use Rattle.c_run.proofs.find.place_called.Given as goal

abbrev pub invariant-loop-k : goal.invariant-loop-k
invariant-loop-k l = Latest l.functions l.name l.k l.found
