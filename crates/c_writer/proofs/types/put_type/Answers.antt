use Rattle.c_writer.proofs.Stages.{then}
use Rattle.c_writer.proofs.types.put_type.Goals as goal

pub returns-in-Pointer : goal.returns-in-Pointer
returns-in-Pointer g c = rw c.in-Pointer.is (then c.put_base.ensures (rw c.star_name.ensures at c.put-in-Pointer.ensures))
