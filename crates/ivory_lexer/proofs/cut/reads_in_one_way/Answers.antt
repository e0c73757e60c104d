use Rattle.ivory_lexer.proofs.Readings.{exactly_one}
use Rattle.ivory_lexer.proofs.cut.reads_in_one_way.Goals as goal

pub returns : goal.returns
returns c = exactly_one
