use Rattle.typing_laws.proofs.CleanModules.{standing_is_faultless}
use Rattle.typing_laws.proofs.laws.typed_modules_are_clean.Goals as goal

-- src/laws.rt:58:1
pub returns : goal.returns
returns c = standing_is_faultless
