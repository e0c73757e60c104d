use Rattle.c_writer.proofs.Stages.{then}
use Rattle.c_writer.proofs.decl.put_length.Goals as goal

pub returns-in-Some : goal.returns-in-Some
returns-in-Some g c = rw c.in-Some.is (then (then c.put.ensures (rw (c.as_bytes.ensures.value, c.format.ensures.text) at c.put-in-Some.ensures)) (c.put-in-Some-2.ensures))
