use Rattle.std.proofs.Common.{pos}
use Rattle.text_pieces.proofs.Lists.{all_put}
use Rattle.iv_script.specs.Report.{spaced}
use Rattle.iv_script.proofs.Rows.{one_number}
use Rattle.iv_script.proofs.report.put_all_spaced.Goals as goal

pub loop-value-preserved : goal.loop-value-preserved
loop-value-preserved g c = one_number c.args.values.now c.loop-value.value-index (pos 0) c.loop-value-test.true c.loop-value.invariant c.put_spaced.ensures

pub returns : goal.returns
returns g c = all_put spaced c.args.values.now c.loop-value.value-index c.loop-value-test.false c.loop-value.invariant
