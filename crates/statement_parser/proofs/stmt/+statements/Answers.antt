use Rattle.std.proofs.Common.{rules, arith}
use Rattle.reading.proofs.Turns.{turns_init, turns_after}
use Rattle.statement_parser.proofs.stmt.+statements.Goals as goal

pub statements-loop-turn-init : goal.statements-loop-turn-init
statements-loop-turn-init t c = turns_init _ _ _ _ _ (omega arith) c.new-stmts.ensures

pub statements-loop-turn-preserved : goal.statements-loop-turn-preserved
statements-loop-turn-preserved t c = turns_after c.in_ok-next.next _ _ _ c.loop-turn.invariant (omega arith) (search rules) c.in_ok-next.ensures c.in_ok-push.ensures.ok
