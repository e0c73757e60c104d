use Rattle.std.proofs.Common.{rules, arith, refl}
use Rattle.reading.proofs.Turns.{turns_more_init, turns_after}
use Rattle.statement_parser.proofs.list.more_parts.Goals as goal

pub loop-turn-init : goal.loop-turn-init
loop-turn-init g c = turns_more_init _ _ _ _ _ _ _ (omega arith) c.in_ok-parts.ensures refl

pub loop-turn-preserved : goal.loop-turn-preserved
loop-turn-preserved g c = turns_after c.in_ok-next.next _ _ _ c.loop-turn.invariant (omega arith) (search rules) c.in_ok-next.ensures c.in_ok-push.ensures.ok
