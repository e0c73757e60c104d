use Rattle.text_pieces.proofs.Stages.{then}
use Rattle.iv_script.proofs.report.put_site.Goals as goal

pub returns : goal.returns
returns g c = then c.put.ensures (rw (c.as_bytes.ensures.value, c.format.ensures.text) at c.put-2.ensures)
