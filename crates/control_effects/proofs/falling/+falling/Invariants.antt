-- Each statement so far falls through.
use Rattle.std.proofs.Common.{◌≡◌, drop}
use Rattle.ivory_tree.specs.View.{stmts_of}
use Rattle.control_effects.specs.Falling.{stmts_fall}
use Rattle.control_effects.proofs.falling.+falling.Given as goal

abbrev pub invariant-all_fall-loop-stmt : goal.invariant-all_fall-loop-stmt
invariant-all_fall-loop-stmt l = stmts_fall (stmts_of l.stmts) ≡ stmts_fall (stmts_of (drop l.stmt-index l.stmts))
