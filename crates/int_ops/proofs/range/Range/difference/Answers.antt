use Rattle.int_ops.proofs.Wide.{wide, difference_is}
use Rattle.int_ops.proofs.range.Range.difference.Goals as goal

pub returns : goal.returns
returns g c =
    let h = wide _ _ c.args.a c.requires.width c.requires.left in
    let k = wide _ _ c.args.b c.requires.width c.requires.right in
    rw (difference_is _ _ h k) at c.fitted.ensures
