use Rattle.c_writer.proofs.Stages.{then}
use Rattle.c_writer.proofs.decl.put_member.Goals as goal

pub returns : goal.returns
returns g c = then (then (then (then c.put.ensures (c.put_object.ensures)) (c.put_length.ensures)) (c.put-2.ensures)) (c.put-3.ensures)
