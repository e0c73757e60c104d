use Rattle.std.proofs.Common.{◌≡◌, ◌++◌, map, drop}
use Rattle.std.specs.List.{flat_map}
use Rattle.core_tree.specs.Checks.{proc_checks}
use Rattle.core_tree.specs.View.{proc_of}
use Rattle.contract_checks.proofs.procs.add_procs.Given as goal

abbrev pub invariant-loop-p : goal.invariant-loop-p
invariant-loop-p l = l.found ++ flat_map proc_checks (map proc_of (drop l.p-index l.p-items)) ≡ l.initial.found ++ flat_map proc_checks (map proc_of l.p-items)
