use Rattle.first_meaning.proofs.Source.{runs_obey}
use Rattle.first_meaning.proofs.laws.runs_obey_their_laws.Goals as goal

pub returns : goal.returns
returns c = runs_obey
