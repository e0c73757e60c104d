use Rattle.typing_laws.proofs.ExactlyOne.{faultless_is_typed}
use Rattle.typing_laws.proofs.laws.clean_modules_are_typed.Goals as goal

-- src/laws.rt:63:1
pub returns : goal.returns
returns c = faultless_is_typed
