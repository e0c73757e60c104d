-- Nothing so far is unreached: what is unreached in the whole is what is so in the rest.
use Rattle.std.proofs.Common.{◌≡◌, drop, true}
use Rattle.ivory_tree.specs.View.{stmts_of}
use Rattle.control_effects.specs.Unreached.{within_stmts}
use Rattle.control_effects.proofs.unreached.+unreached.Given as goal

abbrev pub invariant-first_in_row-loop-stmt : goal.invariant-first_in_row-loop-stmt
invariant-first_in_row-loop-stmt l = within_stmts true (stmts_of l.stmts) ≡ within_stmts l.reached (stmts_of (drop l.stmt-index l.stmts))
