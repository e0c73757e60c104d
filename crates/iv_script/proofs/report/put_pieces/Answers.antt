use Rattle.text_pieces.proofs.Lists.{one_more, all_put}
use Rattle.iv_script.specs.Report.{piece_text}
use Rattle.iv_script.proofs.report.put_pieces.Goals as goal

pub loop-piece-preserved : goal.loop-piece-preserved
loop-piece-preserved g c = one_more piece_text c.args.pieces.now c.loop-piece.piece-index c.piece-item.result c.loop-piece-test.true c.piece-item.is c.loop-piece.invariant c.put_piece.ensures

pub returns : goal.returns
returns g c = all_put piece_text c.args.pieces.now c.loop-piece.piece-index c.loop-piece-test.false c.loop-piece.invariant
