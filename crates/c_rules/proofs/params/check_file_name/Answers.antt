use Rattle.c_text.specs.Rules.{NameIsOfFile, NameIsNew}
use Rattle.c_scopes.proofs.Walks.{passed, asked_here, asked_again}
use Rattle.c_rules.proofs.params.check_file_name.Goals as goal

pub returns : goal.returns
returns c = passed (asked_again NameIsNew (asked_here NameIsOfFile (rw c.is_of_file.ensures at c.ask.ensures)) (rw c.is_taken-taken.ensures at c.ask-2.ensures)) (rw c.as_slice.ensures at c.pass.ensures)
