use Rattle.std.proofs.Common.{take}
use Rattle.std.specs.Prelude.{map}
use Rattle.std.specs.List.{concat}
use Rattle.text_pieces.specs.Stages.{Puts}
use Rattle.iv_script.specs.Report.{piece_text}
use Rattle.iv_script.proofs.report.put_pieces.Given as goal

abbrev pub invariant-loop-piece : goal.invariant-loop-piece
invariant-loop-piece g l = Puts (g.P.Pieces.stage l.initial.out) (g.P.Pieces.stage l.out) (concat (map piece_text (take l.piece-index l.pieces)))
