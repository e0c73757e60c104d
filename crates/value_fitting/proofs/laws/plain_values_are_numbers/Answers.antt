use Rattle.value_fitting.proofs.Values.{plain_values_are_numbers}
use Rattle.value_fitting.proofs.laws.plain_values_are_numbers.Goals as goal

pub returns : goal.returns
returns c = plain_values_are_numbers
