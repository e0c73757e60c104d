use Rattle.std.proofs.Common.{◌≡◌, ◌-◌, map, drop}
use Rattle.c_meaning.specs.Runs.{bound}
use Rattle.c_operators.specs.Values.{value_of}
use Rattle.c_expressions.specs.State.{frame_of}
use Rattle.c_run.proofs.functions.entry_frame.Given as goal

abbrev pub invariant-loop-i : goal.invariant-loop-i
invariant-loop-i l = frame_of l.frame ≡ bound (drop (l.many - l.i) l.params) (map value_of (drop (l.many - l.i) l.args))
