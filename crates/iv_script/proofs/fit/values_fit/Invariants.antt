use Rattle.std.proofs.Common.{◌≡◌, drop}
use Rattle.run_records.specs.Scripts.{values_fit}
use Rattle.iv_script.proofs.fit.values_fit.Given as goal

abbrev pub invariant-loop-at : goal.invariant-loop-at
invariant-loop-at l = values_fit (drop l.at l.plains) (drop l.at l.values) ≡ values_fit l.plains l.values
