use Rattle.text_pieces.proofs.Stages.{then}
use Rattle.iv_script.proofs.report.put_spaced.Goals as goal

pub returns : goal.returns
returns g c = then c.put.ensures c.put_number.ensures
