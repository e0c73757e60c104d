use Rattle.std.proofs.Common.{arith}
use Rattle.c_rules.proofs.unit.first_broken.Goals as goal

pub returns : goal.returns
returns c = λ fits. c.in_ok-check_unit.ensures.fault (omega (arith, fits))
