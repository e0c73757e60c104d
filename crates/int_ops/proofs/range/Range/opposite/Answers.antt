use Rattle.int_ops.proofs.Wide.{wide, opposite_is}
use Rattle.int_ops.proofs.range.Range.opposite.Goals as goal

pub returns : goal.returns
returns g c = rw (opposite_is _ (wide _ _ c.args.a c.requires.width c.requires.operand)) at c.fitted.ensures
