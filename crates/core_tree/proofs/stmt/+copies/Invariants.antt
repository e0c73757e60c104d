use Rattle.std.proofs.Common.{◌≡◌, take}
use Rattle.core_tree.proofs.stmt.+copies.Given as goal

abbrev pub invariant-copied_stmts-loop-stmt : goal.invariant-copied_stmts-loop-stmt
invariant-copied_stmts-loop-stmt l = l.items ≡ take l.stmt-index l.stmt-items
