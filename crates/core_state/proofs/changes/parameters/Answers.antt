use Rattle.std.proofs.Common.{◌∙◌, arith}
use Rattle.core_state.proofs.changes.parameters.Goals as goal

pub loop-preserved : goal.loop-preserved
loop-preserved c = record {
  names = c.in_ok-name_last.ensures.names ∙ c.loop.invariant.names;
  length = omega (arith, c.in_ok-name_last.ensures.length, c.loop.invariant.length, c.loop-test.true, c.len-end.ensures);
}
