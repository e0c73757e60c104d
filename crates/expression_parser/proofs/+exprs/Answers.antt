use Rattle.std.proofs.Common.{◌≡◌, ◌-◌, ◌∙◌, Err, ap, rules, arith}
use Rattle.std.proofs.lemmas.Result.{err_from_is_err_and}
use Rattle.reading.proofs.Turns.{turns_init, turns_after}
use Rattle.expression_grammar.proofs.FlatChain.{climbs_start, climbs_past, climbs_after, climbs_end}
use Rattle.expression_parser.proofs.Faulty.{climbs_fault}
use Rattle.expression_parser.proofs.+exprs.Goals as goal

pub expr::climb-loop-at-init : goal.expr::climb-loop-at-init
expr::climb-loop-at-init t c = climbs_start _ _ _ _ _ _ (omega arith)

pub expr::climb-loop-at-preserved-then-not-starts_operator : goal.expr::climb-loop-at-preserved-then-not-starts_operator
expr::climb-loop-at-preserved-then-not-starts_operator t c = climbs_past c.loop-at.invariant _ _ (omega arith) (omega arith) (search rules)

pub expr::climb-loop-at-preserved : goal.expr::climb-loop-at-preserved
expr::climb-loop-at-preserved t c = climbs_after c.loop-at.invariant _ _ _ _ (omega arith) (omega arith) c.in_ok-longer.ensures

pub expr::climb-returns-in_err-longer : goal.expr::climb-returns-in_err-longer
expr::climb-returns-in_err-longer t c =
    let p = err_from_is_err_and c.from_residual.result c.from_residual.ensures.1 in
    let e : c.from_residual.result ≡ Err c.in_err-longer.field-0.0 = p.1 ∙ ap Err p.2 in
    rw e (climbs_fault _ (c.args.level - c.loop-at.at - 1) c.loop-at.invariant (omega arith) c.in_err-longer.ensures)

pub expr::climb-returns : goal.expr::climb-returns
expr::climb-returns t c = climbs_end c.loop-at.invariant (omega arith)

pub expr::links-loop-turn-init : goal.expr::links-loop-turn-init
expr::links-loop-turn-init t c = turns_init _ _ _ _ _ (omega arith) c.in_ok-links.ensures

pub expr::links-loop-turn-preserved : goal.expr::links-loop-turn-preserved
expr::links-loop-turn-preserved t c = turns_after c.in_ok-next.next _ _ _ c.loop-turn.invariant (omega arith) (search rules) c.in_ok-next.ensures c.in_ok-push.ensures.ok

pub parts::steps-loop-turn-init : goal.parts::steps-loop-turn-init
parts::steps-loop-turn-init t c = turns_init _ _ _ _ _ (omega arith) c.in_ok-steps.ensures

pub parts::steps-loop-turn-preserved : goal.parts::steps-loop-turn-preserved
parts::steps-loop-turn-preserved t c = turns_after c.in_ok-next.next _ _ _ c.loop-turn.invariant (omega arith) (search rules) c.in_ok-next.ensures c.in_ok-push.ensures.ok
