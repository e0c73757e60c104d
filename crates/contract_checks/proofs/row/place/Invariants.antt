use Rattle.std.proofs.Common.{◌≡◌, ℕ, ◌<◌, length, get_or}
use Rattle.core_tree.specs.declared.check.Check.{Check}
use Rattle.contract_checks.proofs.row.place.Given as goal

-- each check so far stands at the place of its number
abbrev pub invariant-loop-check : goal.invariant-loop-check
invariant-loop-check l =
    (length l.row ≡ length l.checks)
    × ((j : ℕ) (d : Check) → j < l.check-index → get_or l.row (get_or l.checks j d).site d ≡ get_or l.checks j d)
