use Rattle.std.proofs.Common.{◌≡◌, ◌++◌, map, drop}
use Rattle.std.specs.List.{flat_map}
use Rattle.core_tree.specs.Checks.{expr_checks}
use Rattle.core_tree.specs.View.{expr_of}
use Rattle.contract_checks.proofs.stmts.add_args.Given as goal

abbrev pub invariant-loop-arg : goal.invariant-loop-arg
invariant-loop-arg l = l.found ++ flat_map expr_checks (map expr_of (drop l.arg-index l.arg-items)) ≡ l.initial.found ++ flat_map expr_checks (map expr_of l.arg-items)
