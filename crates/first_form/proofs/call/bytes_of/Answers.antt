use Rattle.std.proofs.Common.{arith}
use Rattle.ivory_tree.specs.View.{expr_of}
use Rattle.first_form.specs.Stands.{ByteStands}
use Rattle.first_form.proofs.Lists.{each_taken, not_each}
use Rattle.first_form.proofs.call.bytes_of.Goals as goal

pub returns-in_default-clause-refused : goal.returns-in_default-clause-refused
returns-in_default-clause-refused c = not_each expr_of ByteStands _ _ c.arg-item.result (omega arith) c.arg-item.is c.in_default.ensures.none

pub loop-arg-preserved : goal.loop-arg-preserved
loop-arg-preserved c =
    each_taken expr_of ByteStands _ _ _ _ c.arg-item.result c.in-Some.value c.loop-arg.invariant (omega arith) c.arg-item.is c.in-Some.ensures.some c.in_ok-push.ensures.ok
