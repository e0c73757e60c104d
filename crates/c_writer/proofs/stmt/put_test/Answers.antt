use Rattle.c_writer.proofs.Stages.{then}
use Rattle.c_writer.proofs.stmt.put_test.Goals as goal

pub returns : goal.returns
returns g c = then (then (then c.put_indent.ensures (c.put.ensures)) (c.put_expr.ensures)) (c.put-2.ensures)
