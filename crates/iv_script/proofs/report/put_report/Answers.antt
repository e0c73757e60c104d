use Rattle.iv_script.proofs.Rows.{ends}
use Rattle.text_pieces.proofs.Stages.{then}
use Rattle.iv_script.proofs.report.put_report.Goals as goal

pub returns : goal.returns
returns g c = ends c.args.outcome.now (then (then (then (rw c.as_slice.ensures at c.put_events.ensures) c.put_end.ensures) c.put.ensures) (rw (c.shown_areas.ensures, c.as_slice-2.ensures) at c.put_areas.ensures))
