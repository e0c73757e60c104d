use Rattle.c_writer.proofs.Stages.{then}
use Rattle.c_writer.proofs.decl.put_extern.Goals as goal

pub returns : goal.returns
returns g c = then (then (then (then c.put.ensures (c.put_typed.ensures)) (rw c.as_slice.ensures at c.put_types.ensures)) (c.put-2.ensures)) (c.put-3.ensures)
