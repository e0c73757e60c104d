use Rattle.c_writer.proofs.Stages.{then, ended}
use Rattle.c_writer.proofs.stmt.put_const_call.Goals as goal

pub returns : goal.returns
returns g c = ended (then (then (then c.put_indent.ensures (c.put_const.ensures)) (c.put.ensures)) (c.put_call.ensures)) c.put_end.ensures
