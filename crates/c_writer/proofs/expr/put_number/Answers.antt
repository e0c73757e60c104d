use Rattle.c_writer.proofs.Stages.{then}
use Rattle.c_writer.proofs.expr.put_number.Goals as goal

pub returns : goal.returns
returns g c = then (rw (c.as_bytes.ensures.value, c.format.ensures.text) at c.put.ensures) (rw c.suffix_name.ensures at c.put-2.ensures)
