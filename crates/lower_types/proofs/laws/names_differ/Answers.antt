use Rattle.lower_types.proofs.Names.{locals_differ, arrays_differ, items_differ, item_is_no_local, item_is_no_array}
use Rattle.lower_types.proofs.laws.names_differ.Goals as goal

pub returns-clause-locals : goal.returns-clause-locals
returns-clause-locals c = locals_differ

pub returns-clause-arrays : goal.returns-clause-arrays
returns-clause-arrays c = arrays_differ

pub returns-clause-items : goal.returns-clause-items
returns-clause-items c = items_differ

pub returns-clause-apart : goal.returns-clause-apart
returns-clause-apart c = λ name j. (item_is_no_local name j, item_is_no_array name j)
