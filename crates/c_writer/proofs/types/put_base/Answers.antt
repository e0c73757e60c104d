use Rattle.c_writer.proofs.Stages.{then}
use Rattle.c_writer.proofs.types.put_base.Goals as goal

pub returns-in-Struct : goal.returns-in-Struct
returns-in-Struct g c = rw c.in-Struct.is (then c.put-in-Struct.ensures (rw c.as_slice.ensures at c.put-in-Struct-2.ensures))
