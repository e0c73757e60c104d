use Rattle.c_writer.proofs.Stages.{then, ended}
use Rattle.c_writer.proofs.stmt.put_assign.Goals as goal

pub returns : goal.returns
returns g c = ended (then (then (then c.put_indent.ensures (c.put_place.ensures)) (c.put.ensures)) (c.put_expr.ensures)) c.put_end.ensures
