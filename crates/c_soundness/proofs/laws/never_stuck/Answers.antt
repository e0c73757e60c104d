use Rattle.c_soundness.proofs.Units as units
use Rattle.c_soundness.proofs.laws.never_stuck.Goals as goal

pub returns : goal.returns
returns c = units.never_stuck_laws
