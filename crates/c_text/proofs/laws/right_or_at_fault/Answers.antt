use Rattle.c_text.proofs.FirstFault.{right_or_at_fault, not_both, one_first, search_finds}
use Rattle.c_text.proofs.laws.right_or_at_fault.Goals as goal

pub returns-clause-some : goal.returns-clause-some
returns-clause-some c = right_or_at_fault

pub returns-clause-other : goal.returns-clause-other
returns-clause-other c = not_both

pub returns-clause-one : goal.returns-clause-one
returns-clause-one c = one_first

pub returns-clause-found : goal.returns-clause-found
returns-clause-found c = search_finds
