-- No statement so far breaks.
use Rattle.std.proofs.Common.{◌≡◌, drop}
use Rattle.ivory_tree.specs.View.{stmts_of}
use Rattle.control_effects.specs.Breaks.{stmts_break}
use Rattle.control_effects.proofs.breaks.+breaks.Given as goal

abbrev pub invariant-any_breaks-loop-stmt : goal.invariant-any_breaks-loop-stmt
invariant-any_breaks-loop-stmt l = stmts_break (stmts_of l.stmts) ≡ stmts_break (stmts_of (drop l.stmt-index l.stmts))
