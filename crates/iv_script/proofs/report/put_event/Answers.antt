use Rattle.text_pieces.proofs.Stages.{then}
use Rattle.iv_script.proofs.report.put_event.Goals as goal

pub returns-in-Call : goal.returns-in-Call
returns-in-Call g c = rw c.in-Call.is (then (then (then c.put.ensures (rw c.as_slice.ensures at c.put-in-Call.ensures)) (rw c.as_slice-in-Call.ensures at c.put_pieces.ensures)) c.put-in-Call-2.ensures)

pub returns-in-Ret : goal.returns-in-Ret
returns-in-Ret g c = rw c.in-Ret.is (then (then (then c.put-in-Ret.ensures (rw c.as_slice-in-Ret.ensures at c.put-in-Ret-2.ensures)) c.put_returned.ensures) c.put-in-Ret-3.ensures)
