use Rattle.text_pieces.proofs.Stages.{then}
use Rattle.iv_script.proofs.report.put_end.Goals as goal

pub returns-in-Stopped : goal.returns-in-Stopped
returns-in-Stopped g c = rw c.in-Stopped.is (then c.put-in-Stopped.ensures c.put_site.ensures)

pub returns-in-Undefined : goal.returns-in-Undefined
returns-in-Undefined g c = rw c.in-Undefined.is (then c.put-in-Undefined.ensures (rw c.reason_word.ensures at c.put-in-Undefined-2.ensures))
