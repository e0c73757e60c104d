use Rattle.c_meaning.proofs.Lawful as lawful
use Rattle.c_meaning.proofs.laws.run_laws.Goals as goal

pub returns : goal.returns
returns c = lawful.run_laws
