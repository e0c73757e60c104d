use Rattle.std.proofs.Common.{subst}
use Rattle.ivory_lexer.specs.Scanning.{IsTaken}
use Rattle.ivory_lexer.proofs.Cutting.{cut_goes_on, cut_ends, rest_of}
use Rattle.ivory_lexer.proofs.cut.cut.Goals as goal

pub loop-at-preserved : goal.loop-at-preserved
loop-at-preserved c =
    let step = subst (λ rest. IsTaken c.loop-at.at rest c.in_ok-at.field-0 c.loop-at.tokens c.take_piece.new.tokens) (rest_of c.args.text.now c.loop-at.at) c.in_ok-at.ensures.taken in
    cut_goes_on c.args.text.now c.loop-at.at c.in_ok-at.field-0 c.loop-at.tokens c.take_piece.new.tokens c.loop-at.invariant step

pub returns-clause-tokens : goal.returns-clause-tokens
returns-clause-tokens c = cut_ends c.args.text.now c.loop-at.at c.loop-at.tokens c.loop-at.invariant c.loop-at-test.false
