use Rattle.c_writer.proofs.Stages.{then}
use Rattle.c_writer.proofs.decl.put_file_object.Goals as goal

pub returns : goal.returns
returns g c = then (then (then (then (then (then (then (then c.put.ensures (c.put_base.ensures)) (c.put-2.ensures)) (rw c.const_name.ensures at c.put-3.ensures)) (rw c.as_slice.ensures at c.put-4.ensures)) (c.put-5.ensures)) (c.put_init.ensures)) (c.put-6.ensures)) (c.put-7.ensures)
