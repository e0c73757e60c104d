use Rattle.typing_laws.proofs.ExactlyOne.{exactly_one}
use Rattle.typing_laws.proofs.laws.typed_or_faulty.Goals as goal

-- src/laws.rt:68:1
pub returns : goal.returns
returns c = exactly_one
