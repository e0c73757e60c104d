use Rattle.c_writer.proofs.Stages.{then}
use Rattle.c_writer.proofs.expr.put_further.Goals as goal

pub returns : goal.returns
returns g c = then c.put.ensures c.put_expr.ensures
