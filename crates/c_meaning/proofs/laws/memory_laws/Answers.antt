use Rattle.c_meaning.proofs.Memory as memory
use Rattle.c_meaning.proofs.laws.memory_laws.Goals as goal

pub returns-clause-lawful : goal.returns-clause-lawful
returns-clause-lawful g c = memory.memory_is_lawful

pub returns-clause-values : goal.returns-clause-values
returns-clause-values g c = memory.objects_hold_values _
