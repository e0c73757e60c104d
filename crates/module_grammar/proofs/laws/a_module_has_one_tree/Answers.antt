-- Of two trees with a row each, both are read where as much may nest as in both rows.
use Rattle.module_grammar.proofs.Exactly.{one_module}
use Rattle.module_grammar.proofs.laws.a_module_has_one_tree.Goals as goal

pub returns : goal.returns
returns c = λ x y ts. one_module x y ts
