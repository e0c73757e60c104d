use Rattle.std.proofs.Common.{sym, arith, ◌∙◌}
use Rattle.c_lexemes.proofs.Cuts.{no_blanks_first, blanks_first}
use Rattle.c_lexemes.proofs.scan.blanks.Goals as goal

pub returns-then-length-eq0 : goal.returns-then-length-eq0
returns-then-length-eq0 c = no_blanks_first c.args.bytes.now (omega arith)

pub returns : goal.returns
returns c = rw c.split_at.ensures.back (blanks_first c.args.bytes.now c.blanks_length-length.result (sym c.blanks_length-length.ensures.value) c.if-length-eq0.false)
