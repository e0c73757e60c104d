use Rattle.std.proofs.Common.{rules, arith}
use Rattle.reading.proofs.Turns.{turns_more_init, turns_after}
use Rattle.statement_parser.proofs.init.+inits.Goals as goal

pub more_inits-loop-turn-init : goal.more_inits-loop-turn-init
more_inits-loop-turn-init t c = turns_more_init _ _ _ _ _ _ _ (omega arith) c.in_ok-push.ensures.ok c.in_ok-inits.ensures

pub more_inits-loop-turn-preserved : goal.more_inits-loop-turn-preserved
more_inits-loop-turn-preserved t c = turns_after c.in_ok-next.next _ _ _ c.loop-turn.invariant (omega arith) (search rules) c.in_ok-next.ensures c.in_ok-push-2.ensures.ok
