use Rattle.std.proofs.Common.{◌∙◌, ap, sym}
use Rattle.std.proofs.lemmas.Int.{to_z-of_z}
use mir.Syntax.{w128}
use Rattle.c_operators.specs.Reasons.{or_reason}
use Rattle.c_operators.proofs.Sums.{sum_signed, sum_unsigned}
use Rattle.c_operators.proofs.arithmetic.sum.Goals as goal

pub returns-then-is_signed : goal.returns-then-is_signed
returns-then-is_signed c =
    let e = rw (to_z-of_z w128 c.args.a c.ranges.a, to_z-of_z w128 c.args.b c.ranges.b) at c.apply.ensures.exact in
    c.or_reason.ensures ∙ ap or_reason e ∙ sum_signed c.args.kind c.args.a c.args.b (sym c.if-is_signed.ensures)

pub returns : goal.returns
returns c =
    let e = rw (to_z-of_z w128 c.args.a c.ranges.a, to_z-of_z w128 c.args.b c.ranges.b) at c.apply-2.ensures.exact in
    c.or_reason-2.ensures ∙ ap or_reason e ∙ sum_unsigned c.args.kind c.args.a c.args.b (sym c.if-is_signed.ensures)
