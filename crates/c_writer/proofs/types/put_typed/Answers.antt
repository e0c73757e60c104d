use Rattle.c_writer.proofs.Stages.{then}
use Rattle.c_writer.proofs.types.put_typed.Goals as goal

pub returns : goal.returns
returns g c = then (then c.put_type.ensures (rw c.gap_name.ensures at c.put.ensures)) (rw c.as_slice.ensures at c.put-2.ensures)
