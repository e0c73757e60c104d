use Rattle.c_writer.proofs.Stages.{then}
use Rattle.c_writer.proofs.unit.put_unit.Goals as goal

pub returns : goal.returns
returns g c = then c.put_head.ensures (rw c.as_slice.ensures at c.put_functions.ensures)
