use Rattle.std.proofs.Common.{◌≡◌, ◌++◌, take}
use Rattle.contract_checks.proofs.exprs.add_all.Given as goal

abbrev pub invariant-loop-check : goal.invariant-loop-check
invariant-loop-check l = l.found ≡ l.initial.found ++ take l.check-index l.check-items
