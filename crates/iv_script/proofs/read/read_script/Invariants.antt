use Rattle.std.proofs.Common.{◌≡◌, ◌+◌, ◌≤◌, length}
use Rattle.std.specs.Option.{option_copied}
use Rattle.iv_script.specs.ScriptText.{script_from, script_of}
use Rattle.iv_script.specs.Cuts.{lines_left, size_left, followed}
use Rattle.iv_script.proofs.read.read_script.Given as goal

abbrev pub invariant-loop-rest : goal.invariant-loop-rest
invariant-loop-rest l =
    (followed l.script (script_from (l.number + 1) (lines_left (option_copied l.rest))) ≡ script_of l.fn.bytes)
    × (l.number + size_left (option_copied l.rest) ≤ length l.fn.bytes + 1)

abbrev pub decreases-loop-rest : goal.decreases-loop-rest
decreases-loop-rest l = size_left (option_copied l.rest)
