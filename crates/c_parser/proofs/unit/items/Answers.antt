use Rattle.std.proofs.lemmas.Result.{err_from_is_err_and}
use Rattle.std.proofs.Common.{◌≡◌, ◌-◌, ◌∙◌, Err, ap, arith, rules}
use Rattle.c_parser.proofs.Staged.{staged_init, staged_after, staged_fault}
use Rattle.c_parser.proofs.unit.items.Goals as goal

pub loop-turn-init : goal.loop-turn-init
loop-turn-init c = staged_init c.args.depth c.args.bytes.now _ _ (omega arith) c.new-items.ensures

pub loop-turn-preserved : goal.loop-turn-preserved
loop-turn-preserved c = staged_after _ c.in_ok-next.next _ _ _ _ c.loop-turn.invariant (omega arith) (search rules) c.in_ok-next.ensures (search rules) c.in_ok-push.ensures.ok

pub returns-in_err-next : goal.returns-in_err-next
returns-in_err-next c =
    let p = err_from_is_err_and c.from_residual.result c.from_residual.ensures.1 in
    let e : c.from_residual.result ≡ Err c.in_err-next.field-0.0 = p.1 ∙ ap Err p.2 in
    rw e (staged_fault _ _ c.loop-turn.invariant (λ z. omega arith) (search rules) c.in_err-next.ensures)
