use Rattle.iv_script.proofs.Rows.{row_put}
use Rattle.text_pieces.proofs.Stages.{then}
use Rattle.iv_script.proofs.report.put_row.Goals as goal

pub returns-in-Some : goal.returns-in-Some
returns-in-Some g c = row_put c.args.values.now c.in-Some.first.now c.in-Some.rest.now c.in-Some.ensures.cases.0 (then c.put_number.ensures c.put_all_spaced.ensures)
