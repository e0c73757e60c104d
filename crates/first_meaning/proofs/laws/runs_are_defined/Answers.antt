use Rattle.first_meaning.proofs.Source.{runs_defined}
use Rattle.first_meaning.proofs.laws.runs_are_defined.Goals as goal

pub returns : goal.returns
returns c = runs_defined
