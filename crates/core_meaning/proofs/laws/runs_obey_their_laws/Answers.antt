use Rattle.core_meaning.proofs.RunLaws.{runs_obey}
use Rattle.core_meaning.proofs.laws.runs_obey_their_laws.Goals as goal

pub returns : goal.returns
returns c = runs_obey
