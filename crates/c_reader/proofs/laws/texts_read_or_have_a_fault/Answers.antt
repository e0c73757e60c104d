use Rattle.c_reader.proofs.Verdicts.{unit_or_fault, not_unit_and_fault, one_unit, one_fault, places_within}
use Rattle.c_reader.proofs.laws.texts_read_or_have_a_fault.Goals as goal

pub returns-clause-some : goal.returns-clause-some
returns-clause-some c = unit_or_fault

pub returns-clause-other : goal.returns-clause-other
returns-clause-other c = not_unit_and_fault

pub returns-clause-unit : goal.returns-clause-unit
returns-clause-unit c = one_unit

pub returns-clause-fault : goal.returns-clause-fault
returns-clause-fault c = one_fault

pub returns-clause-place : goal.returns-clause-place
returns-clause-place c = places_within
