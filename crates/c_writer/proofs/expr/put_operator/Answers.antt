use Rattle.c_writer.proofs.Stages.{then}
use Rattle.c_writer.proofs.expr.put_operator.Goals as goal

pub returns : goal.returns
returns g c = then (then c.put.ensures (rw c.binary_name.ensures at c.put-2.ensures)) (c.put-3.ensures)
