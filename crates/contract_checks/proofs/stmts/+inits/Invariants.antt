use Rattle.std.proofs.Common.{◌≡◌, ◌++◌, drop}
use Rattle.core_tree.specs.Checks.{inits_checks}
use Rattle.core_tree.specs.View.{inits_of}
use Rattle.contract_checks.proofs.stmts.+inits.Given as goal

abbrev pub invariant-add_inits-loop-init : goal.invariant-add_inits-loop-init
invariant-add_inits-loop-init l = l.found ++ inits_checks (inits_of (drop l.init-index l.init-items)) ≡ l.initial.found ++ inits_checks (inits_of l.init-items)
