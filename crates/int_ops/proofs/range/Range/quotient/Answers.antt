use Rattle.std.proofs.lemmas.Int.{quot_is}
use mir.Syntax.{w128}
use Rattle.int_ops.proofs.Wide.{wide}
use Rattle.int_ops.proofs.Division.{nonzero, quotient_fits}
use Rattle.int_ops.proofs.range.Range.quotient.Goals as goal

pub returns-else-b-eq0 : goal.returns-else-b-eq0
returns-else-b-eq0 g c =
    let h = wide _ _ c.args.a c.requires.width c.requires.left in
    let e = quot_is w128 c.args.a c.args.b c.ranges.a c.ranges.b (quotient_fits _ c.args.b h) in
    rw (nonzero c.args.b c.if-b-eq0.false) (rw e at c.fitted.ensures)
