-- No argument so far gives the region.
use Rattle.std.proofs.Common.{◌≡◌, drop, map}
use Rattle.region_check.specs.Faults.{known}
use Rattle.rule_checker.specs.Arguments.{passed_at}
use Rattle.rule_checker.proofs.calls.known.Given as goal

abbrev pub invariant-loop-matched : goal.invariant-loop-matched
invariant-loop-matched l = known (map passed_at (drop l.matched-index l.before)) l.number ≡ known (map passed_at l.before) l.number
