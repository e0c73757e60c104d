use Rattle.c_grammar.proofs.Texts.{text_spelled}
use Rattle.c_grammar.proofs.laws.texts_are_spelled.Goals as goal

pub returns : goal.returns
returns c = text_spelled
