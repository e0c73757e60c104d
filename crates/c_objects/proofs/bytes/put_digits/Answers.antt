use Rattle.std.proofs.Common.{arith}
use Rattle.c_objects.proofs.Digits.{put_step, put_end}
use Rattle.c_objects.proofs.bytes.put_digits.Goals as goal

pub loop-i-preserved : goal.loop-i-preserved
loop-i-preserved c = put_step c.args.at c.loop-i.i c.args.many c.loop-i.rest _ _ _ (omega arith) c.put_byte.ensures c.loop-i.invariant

pub returns : goal.returns
returns c = put_end _ c.loop-i.i c.args.many c.loop-i.rest _ _ (omega arith) c.loop-i.invariant
