use Rattle.text_pieces.proofs.Stages.{then}
use Rattle.iv_script.proofs.report.put_area.Goals as goal

pub returns : goal.returns
returns g c = then (then (then c.put.ensures (rw c.as_slice.ensures at c.put-2.ensures)) (rw c.as_slice-2.ensures at c.put_all_spaced.ensures)) c.put-3.ensures
