use Rattle.c_memory.specs.Blocks as blocks
use Rattle.std.proofs.Common.{arith}
use Rattle.c_objects.proofs.Rows.{place_changed, place_past}
use Rattle.c_objects.proofs.objects.Objects.end_at.Goals as goal

pub returns-then-o-len-clause-ended : goal.returns-then-o-len-clause-ended
returns-then-o-len-clause-ended c = place_changed c.args.self.now.items.items c.args.o c.index_mut.result.now c.end.new.self blocks.ended c.index_mut.ensures.value c.end.ensures (omega arith)

pub returns-else-o-len-clause-ended : goal.returns-else-o-len-clause-ended
returns-else-o-len-clause-ended c = place_past c.args.self.now.items.items c.args.o blocks.ended (omega arith)
