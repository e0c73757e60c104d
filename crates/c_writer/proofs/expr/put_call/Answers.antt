use Rattle.c_writer.proofs.Stages.{then}
use Rattle.c_writer.proofs.expr.put_call.Goals as goal

pub returns : goal.returns
returns g c = then (then (then (rw c.as_slice.ensures at c.put.ensures) c.put-2.ensures) (rw c.as_slice-2.ensures at c.put_args.ensures)) c.put-3.ensures
