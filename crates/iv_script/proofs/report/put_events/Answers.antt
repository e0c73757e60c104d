use Rattle.text_pieces.proofs.Lists.{one_more, all_put}
use Rattle.iv_script.specs.Report.{event_line}
use Rattle.iv_script.proofs.report.put_events.Goals as goal

pub loop-event-preserved : goal.loop-event-preserved
loop-event-preserved g c = one_more event_line c.args.events.now c.loop-event.event-index c.event-item.result c.loop-event-test.true c.event-item.is c.loop-event.invariant c.put_event.ensures

pub returns : goal.returns
returns g c = all_put event_line c.args.events.now c.loop-event.event-index c.loop-event-test.false c.loop-event.invariant
