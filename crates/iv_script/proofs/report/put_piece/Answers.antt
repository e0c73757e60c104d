use Rattle.text_pieces.proofs.Stages.{then}
use Rattle.iv_script.proofs.report.put_piece.Goals as goal

pub returns-in-Cells : goal.returns-in-Cells
returns-in-Cells g c = rw c.in-Cells.is (then (then c.put.ensures (rw c.as_slice.ensures at c.put_row.ensures)) c.put-in-Cells.ensures)
