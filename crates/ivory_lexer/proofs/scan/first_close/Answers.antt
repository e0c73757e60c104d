use Rattle.std.proofs.Common.{arith, ◌-◌}
use Rattle.ivory_lexer.proofs.Comments.{search_next, search_ends}
use Rattle.ivory_lexer.proofs.scan.first_close.Goals as goal
use Rattle.ivory_lexer.proofs.scan.first_close.Goals.{else-body-at-eq42-via-then-body-at-eq42+else-body-at-eq47, else-body-at-eq42-via-else-body-at-eq42}

pub loop-at-preserved : goal.loop-at-preserved
loop-at-preserved c =
    search_next c.args.body.now c.loop-at.at c.loop-at.auto.at c.loop-at-test.true c.loop-at.invariant (λ star slash.
    elim c.else-body-at-eq42.branch [
      | else-body-at-eq42-via-then-body-at-eq42+else-body-at-eq47 w ↦ w.if-body-at-eq47.false slash
      | else-body-at-eq42-via-else-body-at-eq42 w ↦ w.if-body-at-eq42.false star
    ])

pub returns-clause-value : goal.returns-clause-value
returns-clause-value c = search_ends c.args.body.now (c.loop-at.at - 1) (omega arith) c.loop-at.invariant
