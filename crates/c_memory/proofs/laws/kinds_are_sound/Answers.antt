use Rattle.c_memory.proofs.KindTables as tables
use Rattle.c_memory.proofs.laws.kinds_are_sound.Goals as goal

pub returns : goal.returns
returns c = tables.kinds_are_sound
