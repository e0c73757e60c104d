use Rattle.std.proofs.Common.{sym, arith, ◌∙◌}
use Rattle.c_lexemes.proofs.Cuts.{no_word_first, word_first}
use Rattle.c_lexemes.proofs.scan.word.Goals as goal

pub returns-then-length-eq0 : goal.returns-then-length-eq0
returns-then-length-eq0 c = no_word_first c.args.bytes.now (omega arith)

pub returns : goal.returns
returns c = rw (c.split_at.ensures.front, c.split_at.ensures.back) (word_first c.args.bytes.now c.word_length-length.result (sym c.word_length-length.ensures.value) c.if-length-eq0.false)
