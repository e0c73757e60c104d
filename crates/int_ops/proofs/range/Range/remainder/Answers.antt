use Rattle.std.proofs.Common.{arith, ap, Ok, ◌∙◌}
use Rattle.std.proofs.lemmas.Int.{ints, quot_is, rem_is, to_z-of_z}
use mir.Syntax.{w128}
use Rattle.int_ops.proofs.Wide.{wide}
use Rattle.int_ops.proofs.Division.{nonzero, quotient_fits, left_over}
use Rattle.int_ops.proofs.range.Range.remainder.Goals as goal

pub nonzero_rem-result : goal.nonzero_rem-result
nonzero_rem-result g c =
    let h = wide _ _ c.args.a c.requires.width c.requires.left in
    let f = quotient_fits _ c.args.b h in
    (grind (arith, ints), rw (to_z-of_z w128 c.args.a c.ranges.a, to_z-of_z w128 c.args.b c.ranges.b) f)

pub returns-then-has : goal.returns-then-has
returns-then-has g c =
    let h = wide _ _ c.args.a c.requires.width c.requires.left in
    let e = quot_is w128 c.args.a c.args.b c.ranges.a c.ranges.b (quotient_fits _ c.args.b h) in
    let r = rw e at c.if-has.ensures in
    rw (nonzero c.args.b c.if-b-eq0.false, ← r) (ap Ok (rem_is w128 c.args.a c.args.b c.ranges.a c.ranges.b ∙ left_over c.args.a c.args.b))

pub returns-else-has : goal.returns-else-has
returns-else-has g c =
    let h = wide _ _ c.args.a c.requires.width c.requires.left in
    let e = quot_is w128 c.args.a c.args.b c.ranges.a c.ranges.b (quotient_fits _ c.args.b h) in
    let r = rw e at c.if-has.ensures in
    rw (nonzero c.args.b c.if-b-eq0.false, ← r)
