use Rattle.std.proofs.Common.{◌≡◌, map, take}
use Rattle.contract_checks.specs.Sites.{site_of}
use Rattle.contract_checks.proofs.row.sites_of.Given as goal

abbrev pub invariant-loop-check : goal.invariant-loop-check
invariant-loop-check l = l.sites ≡ map site_of (take l.check-index l.checks)
