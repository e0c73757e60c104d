use Rattle.std.proofs.lemmas.Result.{err_from_is_err_and}
use Rattle.std.proofs.Common.{◌≡◌, ◌∙◌, Err, ap, refl, arith, rules}
use Rattle.grammars.specs.Grammar.{after}
use Rattle.c_grammar.specs.UnitRules.{member}
use Rattle.reading.proofs.Turns.{turns_after}
use Rattle.c_lexemes.proofs.Turned.{plain_more, turned_fault}
use Rattle.c_parser.proofs.item.more_members.Goals as goal

pub loop-turn-init : goal.loop-turn-init
loop-turn-init c = let rule = member in plain_more c.args.depth rule c.args.bytes.now _ _ _ _ refl (omega arith) c.in_ok-push.ensures.ok c.new-members.ensures

pub loop-turn-preserved : goal.loop-turn-preserved
loop-turn-preserved c = turns_after c.in_ok-next.next _ _ _ c.loop-turn.invariant (omega arith) (search rules) c.in_ok-next.ensures c.in_ok-push-2.ensures.ok

pub returns-in_err-next : goal.returns-in_err-next
returns-in_err-next c =
    let p = err_from_is_err_and c.from_residual-in_err-next.result c.from_residual-in_err-next.ensures.1 in
    let e : c.from_residual-in_err-next.result ≡ Err c.in_err-next.field-0.0 = p.1 ∙ ap Err p.2 in
    rw e (turned_fault _ c.loop-turn.invariant (λ z. omega arith) (search rules) c.in_err-next.ensures)
