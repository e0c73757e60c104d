use Rattle.text_pieces.proofs.Lists.{one_more, all_put}
use Rattle.iv_script.specs.Report.{area_line}
use Rattle.iv_script.proofs.report.put_areas.Goals as goal

pub loop-area-preserved : goal.loop-area-preserved
loop-area-preserved g c = one_more area_line c.args.areas.now c.loop-area.area-index c.area-item.result c.loop-area-test.true c.area-item.is c.loop-area.invariant c.put_area.ensures

pub returns : goal.returns
returns g c = all_put area_line c.args.areas.now c.loop-area.area-index c.loop-area-test.false c.loop-area.invariant
