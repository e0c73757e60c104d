use Rattle.c_writer.proofs.Stages.{then}
use Rattle.c_writer.proofs.stmt.put_first_value.Goals as goal

pub returns-in-Some : goal.returns-in-Some
returns-in-Some g c = rw c.in-Some.is (then c.put.ensures (c.put_init.ensures))
