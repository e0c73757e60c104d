use Rattle.std.proofs.Common.{◌≡◌, drop}
use Rattle.run_records.specs.Scripts.{values_fit}
use Rattle.run_world.proofs.fitting.values_fit.Given as goal

abbrev pub invariant-loop-ty : goal.invariant-loop-ty
invariant-loop-ty l = values_fit l.shape l.values ≡ values_fit (drop l.ty-index l.shape) l.rest
