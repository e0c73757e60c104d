use Rattle.std.proofs.Common.{◌≡◌, ◌∙◌, Err, sym, ap, refl, subst, arith, rules}
use Rattle.std.proofs.lemmas.Result.{err_from_is_err_and}
use Rattle.reading.specs.Reader.{Done}
use Rattle.c_ast.specs.View.{expr_of}
use Rattle.c_grammar.specs.Pieces.{pieces}
use Rattle.c_grammar.specs.ExpressionRules.{step}
use Rattle.c_lexemes.specs.Gives.{Gives}
use Rattle.c_expression_parser.specs.Outcomes.{inner_outcome, inside_outcome}
use Rattle.c_expression_parser.specs.Views.{step_of}
use Rattle.c_lexemes.proofs.Turned.{turned_init, turned_after, turned_fault}
use Rattle.c_expression_parser.proofs.exprs.+exprs.Goals as goal

pub steps-loop-turn-init : goal.steps-loop-turn-init
steps-loop-turn-init t c = turned_init step_of c.args.depth step c.args.bytes.now _ _ refl (omega arith) c.new-steps.ensures

pub steps-loop-turn-preserved : goal.steps-loop-turn-preserved
steps-loop-turn-preserved t c = turned_after step_of _ c.in_ok-next.next _ _ _ c.loop-turn.invariant (omega arith) (search rules) c.in_ok-next.ensures c.in_ok-push.ensures.ok

pub steps-returns-in_err-next : goal.steps-returns-in_err-next
steps-returns-in_err-next t c =
    let p = err_from_is_err_and c.from_residual.result c.from_residual.ensures.1 in
    let e : c.from_residual.result ≡ Err c.in_err-next.field-0.0 = p.1 ∙ ap Err p.2 in
    rw e (turned_fault _ c.loop-turn.invariant (λ z. omega arith) (search rules) c.in_err-next.ensures)

pub behind_inner-returns-in-Left : goal.behind_inner-returns-in-Left
behind_inner-returns-in-Left t c = subst (λ i. Gives expr_of c.behind_pointer.result (inner_outcome c.args.depth i (pieces c.args.bytes.now))) (sym c.in-Left.is) c.behind_pointer.ensures

pub behind_inner-returns-in-Right : goal.behind_inner-returns-in-Right
behind_inner-returns-in-Right t c = subst (λ i. inner_outcome c.args.depth i (pieces c.args.bytes.now) ≡ Done (expr_of c.in-Right.value) (pieces c.args.bytes.now)) (sym c.in-Right.is) refl

pub behind_inside-returns-in-Pointer : goal.behind_inside-returns-in-Pointer
behind_inside-returns-in-Pointer t c = subst (λ i. Gives expr_of c.pointer_and_tail.result (inside_outcome c.args.depth i (pieces c.args.bytes.now))) (sym c.in-Pointer.is) c.pointer_and_tail.ensures

pub behind_inside-returns-in-Type : goal.behind_inside-returns-in-Type
behind_inside-returns-in-Type t c = subst (λ i. Gives expr_of c.cast_operand.result (inside_outcome c.args.depth i (pieces c.args.bytes.now))) (sym c.in-Type.is) c.cast_operand.ensures

pub behind_inside-returns-in-Value : goal.behind_inside-returns-in-Value
behind_inside-returns-in-Value t c = subst (λ i. Gives expr_of c.value_and_tail.result (inside_outcome c.args.depth i (pieces c.args.bytes.now))) (sym c.in-Value.is) c.value_and_tail.ensures
