-- The names so far are in the table, and no two of them are the same.
use Rattle.first_form.proofs.NameTables.{Table}
use Rattle.first_form.proofs.names.table_of.Given as goal

abbrev pub invariant-loop-name : goal.invariant-loop-name
invariant-loop-name l = Table l.names l.name-index l.table
