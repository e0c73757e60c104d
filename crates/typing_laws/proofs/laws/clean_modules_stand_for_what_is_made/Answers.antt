use Rattle.typing_laws.proofs.ExactlyOne.{faultless_is_made}
use Rattle.typing_laws.proofs.laws.clean_modules_stand_for_what_is_made.Goals as goal

-- src/laws.rt:1:1
pub returns : goal.returns
returns c = faultless_is_made
