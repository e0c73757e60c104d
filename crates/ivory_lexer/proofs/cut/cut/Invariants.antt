use Rattle.std.proofs.Common.{length, ◌-◌}
use Rattle.ivory_lexer.proofs.Cutting.{IsCut}
use Rattle.ivory_lexer.proofs.cut.cut.Given as goal

abbrev pub invariant-loop-at : goal.invariant-loop-at
invariant-loop-at l = IsCut l.text l.at l.tokens

abbrev pub decreases-loop-at : goal.decreases-loop-at
decreases-loop-at l = length l.text - l.at
