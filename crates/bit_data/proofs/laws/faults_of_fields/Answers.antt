use Rattle.bit_data.proofs.Faults.{faults_are_first, faultless_fields_are_sound}
use Rattle.bit_data.proofs.laws.faults_of_fields.Goals as goal

pub returns-clause-first : goal.returns-clause-first
returns-clause-first c = faults_are_first

pub returns-clause-none : goal.returns-clause-none
returns-clause-none c = faultless_fields_are_sound
