use Rattle.c_writer.proofs.Stages.{then, ended}
use Rattle.c_writer.proofs.stmt.put_const_value.Goals as goal

pub returns : goal.returns
returns g c = ended (then (then (then c.put_indent.ensures (c.put_const.ensures)) (c.put.ensures)) (c.put_expr.ensures)) c.put_end.ensures
