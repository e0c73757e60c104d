use Rattle.c_writer.proofs.Stages.{then, ended}
use Rattle.c_writer.proofs.stmt.put_call_alone.Goals as goal

pub returns : goal.returns
returns g c = ended (then c.put_indent.ensures (c.put_call.ensures)) c.put_end.ensures
