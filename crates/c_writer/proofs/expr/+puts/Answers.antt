use Rattle.std.specs.Prelude.{codes}
use Rattle.c_ast.specs.View.{expr_of}
use Rattle.c_ast.proofs.View.{address_is, unary_is, binary_is, cast_is, cond_is, at_is, member_is, element_is}
use Rattle.c_text.specs.ExpressionText.{binary_text, expr_text}
use Rattle.c_writer.proofs.Lists.{around}
use Rattle.c_writer.proofs.Stages.{then, as_text}
use Rattle.c_writer.proofs.expr.+puts.Goals as goal

pub put_expr-returns-in-Address : goal.put_expr-returns-in-Address
put_expr-returns-in-Address g t c = rw c.in-Address.is (rw (address_is c.in-Address.place) (then (then c.put.ensures (c.put_place-in-Address.ensures)) (c.put-in-Address.ensures)))

pub put_expr-returns-in-Unary : goal.put_expr-returns-in-Unary
put_expr-returns-in-Unary g t c = rw c.in-Unary.is (rw (unary_is c.in-Unary.op c.in-Unary.e) (then (then (then c.put-in-Unary.ensures (rw c.unary_name.ensures at c.put-in-Unary-2.ensures)) (rw c.get.ensures at c.put_expr.ensures)) (c.put-in-Unary-3.ensures)))

pub put_expr-returns-in-Binary : goal.put_expr-returns-in-Binary
put_expr-returns-in-Binary g t c = rw c.in-Binary.is (rw (binary_is c.in-Binary.op c.in-Binary.left c.in-Binary.right) (as_text (around (codes "(") (expr_text (expr_of c.in-Binary.left)) (codes " ") (binary_text c.in-Binary.op) (codes " ") (expr_text (expr_of c.in-Binary.right)) (codes ")")) (then (then (then (then c.put-in-Binary.ensures (rw c.get-in-Binary.ensures at c.put_expr-in-Binary.ensures)) (c.put_operator.ensures)) (rw c.get-in-Binary-2.ensures at c.put_expr-in-Binary-2.ensures)) (c.put-in-Binary-2.ensures))))

pub put_expr-returns-in-Cast : goal.put_expr-returns-in-Cast
put_expr-returns-in-Cast g t c = rw c.in-Cast.is (rw (cast_is c.in-Cast.ty c.in-Cast.e) (then (then c.put_cast.ensures (rw c.get-in-Cast.ensures at c.put_expr-in-Cast.ensures)) (c.put-in-Cast.ensures)))

pub put_expr-returns-in-Cond : goal.put_expr-returns-in-Cond
put_expr-returns-in-Cond g t c = rw c.in-Cond.is (rw (cond_is c.in-Cond.test c.in-Cond.first c.in-Cond.second) (then (then (then (then (then (then c.put-in-Cond.ensures (rw c.get-in-Cond.ensures at c.put_expr-in-Cond.ensures)) (c.put-in-Cond-2.ensures)) (rw c.get-in-Cond-2.ensures at c.put_expr-in-Cond-2.ensures)) (c.put-in-Cond-3.ensures)) (rw c.get-in-Cond-3.ensures at c.put_expr-in-Cond-3.ensures)) (c.put-in-Cond-4.ensures)))

pub put_place-returns-in-At : goal.put_place-returns-in-At
put_place-returns-in-At g t c = rw c.in-At.is (rw (at_is c.in-At.pointer) (then (then c.put-in-At.ensures (rw c.get.ensures at c.put_expr.ensures)) (c.put-in-At-2.ensures)))

pub put_place-returns-in-Member : goal.put_place-returns-in-Member
put_place-returns-in-Member g t c = rw c.in-Member.is (rw (member_is c.in-Member.place c.in-Member.member) (then (then (rw c.get-in-Member.ensures at c.put_place.ensures) (c.put-in-Member.ensures)) (rw c.as_slice-in-Member.ensures at c.put-in-Member-2.ensures)))

pub put_place-returns-in-Element : goal.put_place-returns-in-Element
put_place-returns-in-Element g t c = rw c.in-Element.is (rw (element_is c.in-Element.place c.in-Element.index) (then (then (then (rw c.get-in-Element.ensures at c.put_place-in-Element.ensures) (c.put-in-Element.ensures)) (rw c.get-in-Element-2.ensures at c.put_expr-in-Element.ensures)) (c.put-in-Element-2.ensures)))
