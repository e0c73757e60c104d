use Rattle.std.proofs.Common.{◌∙◌, drop, sym, ap}
use Rattle.run_records.specs.Scripts.{values_fit}
use Rattle.run_world.proofs.Rests.{empty_of, too_few}
use Rattle.run_world.proofs.fitting.values_fit.Goals as goal

pub returns-in_default : goal.returns-in_default
returns-in_default c =
    sym (c.loop-ty.invariant ∙ ap (values_fit (drop c.loop-ty.ty-index c.args.shape.now)) (empty_of c.loop-ty.rest.now c.in_default.ensures.cases)
    ∙ too_few c.args.shape.now c.loop-ty.ty-index c.loop-ty-test.true)
