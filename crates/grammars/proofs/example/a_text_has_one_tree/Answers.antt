use Rattle.grammars.proofs.ExampleGrammar.{unique}
use Rattle.grammars.proofs.example.a_text_has_one_tree.Goals as goal

pub returns : goal.returns
returns c = unique
