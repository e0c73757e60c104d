use Rattle.std.proofs.Common.{take}
use Rattle.std.specs.Prelude.{map}
use Rattle.std.specs.List.{concat}
use Rattle.text_pieces.specs.Stages.{Puts}
use Rattle.iv_script.specs.Report.{area_line}
use Rattle.iv_script.proofs.report.put_areas.Given as goal

abbrev pub invariant-loop-area : goal.invariant-loop-area
invariant-loop-area g l = Puts (g.P.Pieces.stage l.initial.out) (g.P.Pieces.stage l.out) (concat (map area_line (take l.area-index l.areas)))
