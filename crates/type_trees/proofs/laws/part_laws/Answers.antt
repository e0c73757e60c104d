use Rattle.type_trees.proofs.Scalars.{length_scalars, scalars_window}
use Rattle.type_trees.proofs.laws.part_laws.Goals as goal

pub returns-clause-counted : goal.returns-clause-counted
returns-clause-counted g c = λ a. length_scalars a

pub returns-clause-order : goal.returns-clause-order
returns-clause-order g c = λ a p b h. scalars_window a p b h
