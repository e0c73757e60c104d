-- The values so far.
use Rattle.std.proofs.Common.{take, map}
use Rattle.std.specs.List.{AllZip}
use Rattle.ivory_tree.specs.View.{expr_of}
use Rattle.first_form.specs.Stands.{ByteStands}
use Rattle.first_form.proofs.call.bytes_of.Given as goal

abbrev pub invariant-loop-arg : goal.invariant-loop-arg
invariant-loop-arg l = AllZip ByteStands (map expr_of (take l.arg-index l.args)) l.values
