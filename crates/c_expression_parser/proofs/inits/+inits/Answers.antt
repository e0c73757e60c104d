use Rattle.std.proofs.lemmas.Result.{err_from_is_err_and}
use Rattle.std.proofs.Common.{◌≡◌, ◌∙◌, Err, ap, refl, arith, rules}
use Rattle.grammars.specs.Grammar.{after}
use Rattle.c_grammar.specs.Symbols.{comma}
use Rattle.c_grammar.specs.ExpressionRules.{initializer}
use Rattle.c_ast.specs.View.{init_of}
use Rattle.c_lexemes.proofs.Turned.{turned_more, turned_after, turned_fault}
use Rattle.c_expression_parser.proofs.inits.+inits.Goals as goal

pub more_inits-loop-turn-init : goal.more_inits-loop-turn-init
more_inits-loop-turn-init t c = let rule = after comma initializer in turned_more init_of c.args.depth rule c.args.bytes.now _ _ _ _ refl (omega arith) c.in_ok-push.ensures.ok c.new-inits.ensures

pub more_inits-loop-turn-preserved : goal.more_inits-loop-turn-preserved
more_inits-loop-turn-preserved t c = turned_after init_of _ c.in_ok-next.next _ _ _ c.loop-turn.invariant (omega arith) (search rules) c.in_ok-next.ensures c.in_ok-push-2.ensures.ok

pub more_inits-returns-in_err-next : goal.more_inits-returns-in_err-next
more_inits-returns-in_err-next t c =
    let p = err_from_is_err_and c.from_residual-in_err-next.result c.from_residual-in_err-next.ensures.1 in
    let e : c.from_residual-in_err-next.result ≡ Err c.in_err-next.field-0.0 = p.1 ∙ ap Err p.2 in
    rw e (turned_fault _ c.loop-turn.invariant (λ z. omega arith) (search rules) c.in_err-next.ensures)
