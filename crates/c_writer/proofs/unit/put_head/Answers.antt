use Rattle.c_writer.proofs.Stages.{then}
use Rattle.c_writer.proofs.unit.put_head.Goals as goal

pub returns : goal.returns
returns g c = then (then (then c.put.ensures (rw c.as_slice.ensures at c.put_structs.ensures)) (rw c.as_slice-2.ensures at c.put_externs.ensures)) (rw c.as_slice-3.ensures at c.put_objects.ensures)
