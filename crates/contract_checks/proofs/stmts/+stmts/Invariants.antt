use Rattle.std.proofs.Common.{◌≡◌, ◌++◌, drop}
use Rattle.core_tree.specs.Checks.{stmts_checks}
use Rattle.core_tree.specs.View.{stmts_of}
use Rattle.contract_checks.proofs.stmts.+stmts.Given as goal

abbrev pub invariant-add_stmts-loop-stmt : goal.invariant-add_stmts-loop-stmt
invariant-add_stmts-loop-stmt l = l.found ++ stmts_checks (stmts_of (drop l.stmt-index l.stmt-items)) ≡ l.initial.found ++ stmts_checks (stmts_of l.stmt-items)
