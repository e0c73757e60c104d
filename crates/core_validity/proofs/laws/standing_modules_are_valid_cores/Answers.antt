use Rattle.core_validity.proofs.Valid.{standing_is_valid}
use Rattle.core_validity.proofs.laws.standing_modules_are_valid_cores.Goals as goal

-- src/laws.rt:1:1
pub returns : goal.returns
returns c = standing_is_valid
