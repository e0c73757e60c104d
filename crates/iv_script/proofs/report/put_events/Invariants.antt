use Rattle.std.proofs.Common.{take}
use Rattle.std.specs.Prelude.{map}
use Rattle.std.specs.List.{concat}
use Rattle.text_pieces.specs.Stages.{Puts}
use Rattle.iv_script.specs.Report.{event_line}
use Rattle.iv_script.proofs.report.put_events.Given as goal

abbrev pub invariant-loop-event : goal.invariant-loop-event
invariant-loop-event g l = Puts (g.P.Pieces.stage l.initial.out) (g.P.Pieces.stage l.out) (concat (map event_line (take l.event-index l.events)))
