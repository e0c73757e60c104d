use Rattle.c_writer.proofs.Stages.{then}
use Rattle.c_writer.proofs.types.put_const.Goals as goal

pub returns : goal.returns
returns g c = then (then (then c.put_type.ensures (rw c.gap_name.ensures at c.put.ensures)) (c.put-2.ensures)) (rw c.as_slice.ensures at c.put-3.ensures)
