use Rattle.std.proofs.Common.{rules, arith}
use Rattle.reading.proofs.Turns.{turns_after}
use Rattle.statement_parser.proofs.Further.{turns_further}
use Rattle.statement_parser.proofs.list.further.Goals as goal

pub loop-turn-init : goal.loop-turn-init
loop-turn-init g c = turns_further _ _ _ _ _ (omega arith)

pub loop-turn-preserved : goal.loop-turn-preserved
loop-turn-preserved g c = turns_after c.in_ok-next.next _ _ _ c.loop-turn.invariant (omega arith) (search rules) c.in_ok-next.ensures c.in_ok-push.ensures.ok
