use Rattle.std.proofs.Common.{◌∙◌, ap}
use Rattle.std.specs.Prelude.{map}
use Rattle.c_objects.specs.Bytes.{byte_of}
use Rattle.c_objects.proofs.Rows.{blank_step}
use Rattle.c_objects.proofs.objects.blank.Goals as goal

pub loop-preserved : goal.loop-preserved
loop-preserved c = ap (map byte_of) c.in_ok-push.ensures.ok ∙ blank_step c.loop.bytes c.loop.counter c.loop.invariant
