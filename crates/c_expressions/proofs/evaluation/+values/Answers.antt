use Rattle.std.proofs.Common.{◌≡◌, ◌∙◌, true, false, Result, Ok, Err, ap, subst, sym}
use Rattle.c_ast.specs.Targets.{table_of}
use Rattle.c_ast.specs.View.{expr_of, place_of}
use Rattle.c_ast.proofs.View.{read_is, address_is, unary_is, binary_is, cast_is, cond_is, at_is, member_is, element_is}
use Rattle.c_meaning.specs.Expressions.{eval, eval_place}
use Rattle.c_meaning.specs.Places.{Lvalue, element_of}
use Rattle.c_meaning.specs.State.{Program, CState}
use Rattle.c_meaning.specs.Values.{Trouble, CValue, on_ok, is_true}
use Rattle.c_operators.specs.Values.{value_of, itself, Gives}
use Rattle.c_expressions.specs.Operands.{Leaves}
use Rattle.c_expressions.specs.Places.{Excused, lvalue_of}
use Rattle.c_expressions.specs.Programs.{program_of}
use Rattle.c_expressions.specs.State.{state_of}
use Rattle.c_expressions.specs.declared.following.Left.TheVariants.{Settled, Open}
use Rattle.c_operators.proofs.Excuses.{goes_on}
use Rattle.c_expressions.proofs.Choices.{choice_fails, choice_goes}
use Rattle.c_expressions.proofs.evaluation.+values.Goals as goal

pub eval-returns-in-Read : goal.eval-returns-in-Read
eval-returns-in-Read t c =
    rw c.in-Read.is (rw (read_is c.in-Read.place)
    ((rw c.target-t.ensures at c.read_of.ensures) (eval_place (program_of c.args.program.now) (place_of c.in-Read.place) (state_of c.args.state.now)) c.eval_place.ensures))

pub eval-returns-in-Address : goal.eval-returns-in-Address
eval-returns-in-Address t c =
    rw c.in-Address.is (rw (address_is c.in-Address.place)
    (c.address_at.ensures (eval_place (program_of c.args.program.now) (place_of c.in-Address.place) (state_of c.args.state.now)) c.eval_place-in-Address.ensures))

pub eval-returns-in-Unary : goal.eval-returns-in-Unary
eval-returns-in-Unary t c =
    rw c.in-Unary.is (rw (unary_is c.in-Unary.op c.in-Unary.e)
    ((rw c.target-t.ensures at c.unary_of.ensures) (eval (program_of c.args.program.now) (expr_of c.in-Unary.e) (state_of c.args.state.now)) (rw c.get.ensures at c.eval.ensures)))

pub eval-returns-in-Cast : goal.eval-returns-in-Cast
eval-returns-in-Cast t c =
    rw c.in-Cast.is (rw (cast_is c.in-Cast.to c.in-Cast.e)
    ((rw c.target-t.ensures at c.cast_of.ensures) (eval (program_of c.args.program.now) (expr_of c.in-Cast.e) (state_of c.args.state.now)) (rw c.get-in-Cast.ensures at c.eval-in-Cast.ensures)))

pub eval_place-returns-in-At : goal.eval_place-returns-in-At
eval_place-returns-in-At t c =
    rw c.in-At.is (rw (at_is c.in-At.pointer)
    (c.pointee_of.ensures (eval (program_of c.args.program.now) (expr_of c.in-At.pointer) (state_of c.args.state.now)) (rw c.get.ensures at c.eval.ensures)))

pub eval_place-returns-in-Member : goal.eval_place-returns-in-Member
eval_place-returns-in-Member t c =
    rw c.in-Member.is (rw (member_is c.in-Member.place c.in-Member.name)
    ((rw c.target-t.ensures at c.member_at.ensures) (eval_place (program_of c.args.program.now) (place_of c.in-Member.place) (state_of c.args.state.now)) (rw c.get-in-Member.ensures at c.eval_place.ensures)))

-- ---- operators

pub eval-returns-in-Settled : goal.eval-returns-in-Settled
eval-returns-in-Settled t c =
    let p : Program = program_of c.args.program.now in
    let s : CState = state_of c.args.state.now in
    let left : Result CValue Trouble = eval p (expr_of c.in-Binary.left) s in
    let leaves : Leaves c.in-Binary.op left (Settled c.in-Settled.result) = subst (λ l. Leaves c.in-Binary.op left l) c.in-Settled.is (c.left_of.ensures left (rw c.get-in-Binary.ensures at c.eval-in-Binary.ensures)) in
    rw c.in-Binary.is (rw (binary_is c.in-Binary.op c.in-Binary.left c.in-Binary.right) (leaves (table_of p.target) (eval p (expr_of c.in-Binary.right) s)))

pub eval-returns-in-Open : goal.eval-returns-in-Open
eval-returns-in-Open t c =
    let p : Program = program_of c.args.program.now in
    let s : CState = state_of c.args.state.now in
    let left : Result CValue Trouble = eval p (expr_of c.in-Binary.left) s in
    let right : Result CValue Trouble = eval p (expr_of c.in-Binary.right) s in
    let leaves : Leaves c.in-Binary.op left (Open c.in-Open.v) = subst (λ l. Leaves c.in-Binary.op left l) c.in-Open.is (c.left_of.ensures left (rw c.get-in-Binary.ensures at c.eval-in-Binary.ensures)) in
    rw c.in-Binary.is (rw (binary_is c.in-Binary.op c.in-Binary.left c.in-Binary.right)
    (subst (λ r. Gives Excused value_of r c.binary_of.result) (sym (leaves (table_of p.target) right))
    ((rw c.target-t.ensures at c.binary_of.ensures) right (rw c.get-in-Open.ensures at c.eval-in-Open.ensures))))

-- ---- `?:`

pub eval-returns-in-Err : goal.eval-returns-in-Err
eval-returns-in-Err t c =
    let p : Program = program_of c.args.program.now in
    let s : CState = state_of c.args.state.now in
    let test : Result CValue Trouble = eval p (expr_of c.in-Cond.test) s in
    subst (λ e. Gives Excused value_of (eval p e s) (Err c.in-Err.trouble)) (sym (ap expr_of c.in-Cond.is ∙ cond_is c.in-Cond.test c.in-Cond.first c.in-Cond.second))
    (choice_fails p s (expr_of c.in-Cond.test) (expr_of c.in-Cond.first) (expr_of c.in-Cond.second) c.in-Err.trouble
    (subst (λ r. Gives Excused itself (on_ok test is_true) r) c.in-Err.is (c.truth_of.ensures test (rw c.get-in-Cond.ensures at c.eval-in-Cond.ensures))))

pub eval-returns-then-holds : goal.eval-returns-then-holds
eval-returns-then-holds t c =
    let p : Program = program_of c.args.program.now in
    let s : CState = state_of c.args.state.now in
    let test : Result CValue Trouble = eval p (expr_of c.in-Cond.test) s in
    let truth : on_ok test is_true ≡ Ok c.in-Ok.holds = subst (λ r. Gives Excused itself (on_ok test is_true) r) c.in-Ok.is (c.truth_of.ensures test (rw c.get-in-Cond.ensures at c.eval-in-Cond.ensures)) in
    rw c.in-Cond.is (rw (cond_is c.in-Cond.test c.in-Cond.first c.in-Cond.second)
    (choice_goes p s (expr_of c.in-Cond.test) (expr_of c.in-Cond.first) (expr_of c.in-Cond.second) true c.as_common.result (truth ∙ ap Ok c.if-holds.true)
    ((rw (c.target-t.ensures, c.choice_type-ty.ensures, c.get-in-Ok.ensures, c.get-in-Ok-2.ensures, c.get-in-Ok-3.ensures) at c.as_common.ensures)
    (eval p (expr_of c.in-Cond.first) s) (rw c.get-then-holds.ensures at c.eval-then-holds.ensures))))

pub eval-returns-else-holds : goal.eval-returns-else-holds
eval-returns-else-holds t c =
    let p : Program = program_of c.args.program.now in
    let s : CState = state_of c.args.state.now in
    let test : Result CValue Trouble = eval p (expr_of c.in-Cond.test) s in
    let truth : on_ok test is_true ≡ Ok c.in-Ok.holds = subst (λ r. Gives Excused itself (on_ok test is_true) r) c.in-Ok.is (c.truth_of.ensures test (rw c.get-in-Cond.ensures at c.eval-in-Cond.ensures)) in
    rw c.in-Cond.is (rw (cond_is c.in-Cond.test c.in-Cond.first c.in-Cond.second)
    (choice_goes p s (expr_of c.in-Cond.test) (expr_of c.in-Cond.first) (expr_of c.in-Cond.second) false c.as_common-else-holds.result (truth ∙ ap Ok c.if-holds.false)
    ((rw (c.target-t.ensures, c.choice_type-ty.ensures, c.get-in-Ok.ensures, c.get-in-Ok-2.ensures, c.get-in-Ok-3.ensures) at c.as_common-else-holds.ensures)
    (eval p (expr_of c.in-Cond.second) s) (rw c.get-else-holds.ensures at c.eval-else-holds.ensures))))

-- ---- elements

pub eval_place-returns-in-Ok : goal.eval_place-returns-in-Ok
eval_place-returns-in-Ok t c =
    let p : Program = program_of c.args.program.now in
    let s : CState = state_of c.args.state.now in
    let array : Result Lvalue Trouble = eval_place p (place_of c.in-Element.place) s in
    let index : Result CValue Trouble = eval p (expr_of c.in-Element.index) s in
    let found : array ≡ Ok (lvalue_of c.in-Ok.array) = subst (λ r. Gives Excused lvalue_of array r) c.in-Ok.is (rw c.get-in-Element.ensures at c.eval_place-in-Element.ensures) in
    rw c.in-Element.is (rw (element_is c.in-Element.place c.in-Element.index)
    (goes_on Excused lvalue_of lvalue_of array (λ a. on_ok index (element_of p.target a)) c.in-Ok.array c.element_in.result found
    ((rw c.target-t.ensures at c.element_in.ensures) index (rw c.get-in-Ok.ensures at c.eval-in-Ok.ensures))))
