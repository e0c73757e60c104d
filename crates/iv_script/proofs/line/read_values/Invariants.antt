use Rattle.std.proofs.Common.{◌≡◌, length}
use Rattle.iv_script.specs.ScriptText.{words, numbers}
use Rattle.iv_script.proofs.Lines.{joined}
use Rattle.iv_script.proofs.line.read_values.Given as goal

abbrev pub invariant-loop-word : goal.invariant-loop-word
invariant-loop-word l = joined l.values (numbers (words l.rest)) ≡ numbers (words l.initial.rest)

abbrev pub decreases-loop-word : goal.decreases-loop-word
decreases-loop-word l = length l.rest
