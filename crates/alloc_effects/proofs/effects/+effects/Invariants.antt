-- The effects of the statements so far.
use Rattle.std.proofs.Common.{◌≡◌, take}
use Rattle.ivory_tree.specs.View.{stmts_of}
use Rattle.alloc_effects.specs.Effects.{stmts_effects}
use Rattle.alloc_effects.proofs.effects.+effects.Given as goal

abbrev pub invariant-stmts_effects-loop-stmt : goal.invariant-stmts_effects-loop-stmt
invariant-stmts_effects-loop-stmt l = l.all ≡ stmts_effects (stmts_of (take l.stmt-index l.stmts))
