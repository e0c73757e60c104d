use Rattle.region_soundness.proofs.Runs.{runs_are_defined}
use Rattle.region_soundness.proofs.laws.runs_are_defined.Goals as goal

-- src/laws.rt:1:1
pub returns : goal.returns
returns c = runs_are_defined
