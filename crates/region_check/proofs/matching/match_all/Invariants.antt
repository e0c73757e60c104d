-- What holds of the arguments so far.
use Rattle.region_check.proofs.SoFar.{SoFar}
use Rattle.region_check.proofs.matching.match_all.Given as goal

abbrev pub invariant-loop-i : goal.invariant-loop-i
invariant-loop-i l = SoFar l.params l.args l.i l.subst
