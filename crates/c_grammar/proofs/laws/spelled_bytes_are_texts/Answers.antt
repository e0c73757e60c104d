use Rattle.c_grammar.proofs.SaysTexts.{spelled_texts}
use Rattle.c_grammar.proofs.laws.spelled_bytes_are_texts.Goals as goal

pub returns : goal.returns
returns c = spelled_texts
