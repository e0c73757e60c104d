use Rattle.c_ast.proofs.Promotions as promotions
use Rattle.c_ast.proofs.laws.target_laws.Goals as goal

pub returns-clause-sound : goal.returns-clause-sound
returns-clause-sound c = promotions.targets_are_sound

pub returns-clause-promotion : goal.returns-clause-promotion
returns-clause-promotion c = promotions.promotion_keeps_values

pub returns-clause-common : goal.returns-clause-common
returns-clause-common c = promotions.signed_common_keeps_values
