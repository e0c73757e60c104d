use Rattle.std.proofs.Common.{take}
use Rattle.std.specs.Prelude.{map}
use Rattle.std.specs.List.{concat}
use Rattle.text_pieces.specs.Stages.{Puts}
use Rattle.iv_script.specs.Report.{spaced}
use Rattle.iv_script.proofs.report.put_all_spaced.Given as goal

abbrev pub invariant-loop-value : goal.invariant-loop-value
invariant-loop-value g l = Puts (g.P.Pieces.stage l.initial.out) (g.P.Pieces.stage l.out) (concat (map spaced (take l.value-index l.values)))
