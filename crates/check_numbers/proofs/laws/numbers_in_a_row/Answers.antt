use Rattle.check_numbers.proofs.InARow.{numbered_in_a_row}
use Rattle.check_numbers.proofs.laws.numbers_in_a_row.Goals as goal

pub returns : goal.returns
returns c = numbered_in_a_row
