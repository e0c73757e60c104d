use Rattle.c_writer.proofs.Stages.{then}
use Rattle.c_writer.proofs.expr.put_cast.Goals as goal

pub returns : goal.returns
returns g c = then (then c.put.ensures (c.put_type.ensures)) (c.put-2.ensures)
