-- One file goes from the list into the table.
use Rattle.iv_base.specs.Tables.{map_of}
use Rattle.iv_base.proofs.Tables.{moved}
use Rattle.iv_base.proofs.files.Files.new.Goals as goal

pub loop-file-preserved : goal.loop-file-preserved
loop-file-preserved c = moved _ _ c.in-Some.file (map_of c.loop-file.table) (map_of c.put.new.self) _ c.in-Some.ensures c.in_ok-put.ensures c.loop-file.invariant
