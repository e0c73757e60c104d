use Rattle.c_writer.proofs.Stages.{then}
use Rattle.c_writer.proofs.decl.put_struct.Goals as goal

pub returns : goal.returns
returns g c = then (then (then (then (then c.put.ensures (rw c.as_slice.ensures at c.put-2.ensures)) (c.put-3.ensures)) (c.put-4.ensures)) (rw c.as_slice-2.ensures at c.put_members.ensures)) (c.put-5.ensures)
