use Rattle.c_grammar.proofs.Checked.{unique}
use Rattle.c_grammar.proofs.laws.pieces_spell_one_unit.Goals as goal

pub returns : goal.returns
returns c = unique
