use Rattle.type_trees.proofs.Values.{length_cells, put_replaces}
use Rattle.type_trees.proofs.laws.value_laws.Goals as goal

pub returns-clause-counted : goal.returns-clause-counted
returns-clause-counted g c = λ a v f. length_cells (λ s x. Unit {0}) a v f

pub returns-clause-replaced : goal.returns-clause-replaced
returns-clause-replaced g c = λ a p b v w h f k. put_replaces a p b v w h f k
