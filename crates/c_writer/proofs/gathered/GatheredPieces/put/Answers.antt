use Rattle.c_writer.proofs.Stages.{then}
use Rattle.c_writer.proofs.gathered.GatheredPieces.put.Goals as goal

pub returns-then-piece-gt-ROOM : goal.returns-then-piece-gt-ROOM
returns-then-piece-gt-ROOM g c = then c.make_room.ensures.puts c.put_through.ensures
