-- Of two trees with a row each, both are read where as much may nest as in both rows.
use Rattle.expression_grammar.proofs.Exactly.{one_expression}
use Rattle.expression_grammar.proofs.laws.an_expression_has_one_tree.Goals as goal

pub returns : goal.returns
returns c = λ x y ts. one_expression x y ts
