use Rattle.c_grammar.proofs.Checked.{exactly}
use Rattle.c_grammar.proofs.laws.units_are_read_exactly.Goals as goal

pub returns : goal.returns
returns c = exactly
