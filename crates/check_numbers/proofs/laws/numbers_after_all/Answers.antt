use Rattle.check_numbers.proofs.InARow.{procs_after_is}
use Rattle.check_numbers.proofs.laws.numbers_after_all.Goals as goal

pub returns : goal.returns
returns c = procs_after_is
