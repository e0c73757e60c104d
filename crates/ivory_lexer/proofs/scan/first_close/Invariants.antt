use Rattle.std.proofs.Common.{◌≡◌, ◌-◌, drop}
use Rattle.ivory_lexer.specs.Table.{first_close}
use Rattle.ivory_lexer.proofs.Comments.{moved}
use Rattle.ivory_lexer.proofs.scan.first_close.Given as goal

abbrev pub invariant-loop-at : goal.invariant-loop-at
invariant-loop-at l = first_close l.body ≡ moved (l.at - 1) (first_close (drop (l.at - 1) l.body))
