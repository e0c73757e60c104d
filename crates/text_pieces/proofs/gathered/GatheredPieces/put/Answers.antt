use Rattle.text_pieces.proofs.Stages.{then}
use Rattle.text_pieces.proofs.gathered.GatheredPieces.put.Goals as goal

pub returns-then-piece-gt-ROOM : goal.returns-then-piece-gt-ROOM
returns-then-piece-gt-ROOM g c = then c.make_room.ensures.puts c.put_through.ensures
