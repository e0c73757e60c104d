use Rattle.c_grammar.proofs.Texts.{texts_apart}
use Rattle.c_grammar.proofs.laws.texts_tell_units_apart.Goals as goal

pub returns : goal.returns
returns c = texts_apart
