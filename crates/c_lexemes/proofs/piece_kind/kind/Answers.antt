use Rattle.std.proofs.Common.{◌+◌, sym, ap, ◌∙◌, arith}
use Rattle.c_lexemes.proofs.Leaves.{next_other}
use Rattle.c_lexemes.proofs.piece_kind.kind.Goals as goal

pub returns-in_default-blanks : goal.returns-in_default-blanks
returns-in_default-blanks c = ap (λ b. 256 + b) c.from.ensures ∙ sym (next_other c.args.depth c.args.bytes.now (omega arith) c.in_default.ensures c.in_default-blanks.ensures)
