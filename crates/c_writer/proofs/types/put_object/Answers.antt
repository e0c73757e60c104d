use Rattle.c_writer.proofs.Stages.{then}
use Rattle.c_writer.proofs.types.put_object.Goals as goal

pub returns : goal.returns
returns g c = then (then c.put_base.ensures (c.put.ensures)) (rw c.as_slice.ensures at c.put-2.ensures)
