use Rattle.std.proofs.Common.{◌≡◌, ◌++◌, map, drop}
use Rattle.std.specs.List.{flat_map}
use Rattle.core_tree.specs.Checks.{contract_checks}
use Rattle.core_tree.specs.View.{contract_of}
use Rattle.contract_checks.proofs.procs.add_contracts.Given as goal

abbrev pub invariant-loop-c : goal.invariant-loop-c
invariant-loop-c l = l.found ++ flat_map contract_checks (map contract_of (drop l.c-index l.c-items)) ≡ l.initial.found ++ flat_map contract_checks (map contract_of l.c-items)
