-- Of two trees with a row each, both are read where as much may nest as in both rows.
use Rattle.reading.proofs.ExampleGrammar.{one_tree}
use Rattle.reading.proofs.example.a_text_has_one_tree.Goals as goal

pub returns : goal.returns
returns c = λ x y ts. one_tree x y ts
