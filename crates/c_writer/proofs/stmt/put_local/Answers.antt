use Rattle.c_writer.proofs.Stages.{then, ended}
use Rattle.c_writer.proofs.stmt.put_local.Goals as goal

pub returns : goal.returns
returns g c = ended (then (then c.put_indent.ensures (c.put_object.ensures)) (c.put_first_value.ensures)) c.put_end.ensures
