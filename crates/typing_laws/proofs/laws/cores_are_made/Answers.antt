use Rattle.typing_laws.proofs.OneCore.{standing_is_made}
use Rattle.typing_laws.proofs.laws.cores_are_made.Goals as goal

-- src/laws.rt:1:1
pub returns : goal.returns
returns c = standing_is_made
