use Rattle.c_grammar.proofs.Cut.{pieces_joined}
use Rattle.c_grammar.proofs.laws.pieces_are_the_text.Goals as goal

pub returns : goal.returns
returns c = pieces_joined
