use Rattle.c_writer.proofs.Stages.{then, ended}
use Rattle.c_writer.proofs.stmt.put_return.Goals as goal

pub returns : goal.returns
returns g c = ended (then c.put_indent.ensures (c.put_value.ensures)) c.put_end.ensures
