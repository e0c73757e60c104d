use Rattle.int_ops.proofs.Wide.{wide, sum_is}
use Rattle.int_ops.proofs.range.Range.sum.Goals as goal

pub returns : goal.returns
returns g c =
    let h = wide _ _ c.args.a c.requires.width c.requires.left in
    let k = wide _ _ c.args.b c.requires.width c.requires.right in
    rw (sum_is _ _ h k) at c.fitted.ensures
