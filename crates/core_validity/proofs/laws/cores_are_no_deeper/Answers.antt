use Rattle.core_validity.proofs.Depths.{core_is_no_deeper}
use Rattle.core_validity.proofs.laws.cores_are_no_deeper.Goals as goal

-- src/laws.rt:1:1
pub returns : goal.returns
returns c = core_is_no_deeper
