use Rattle.c_writer.proofs.Stages.{then}
use Rattle.c_writer.proofs.decl.put_further_type.Goals as goal

pub returns : goal.returns
returns g c = then c.put.ensures (c.put_type.ensures)
