use Rattle.std.proofs.Common.{map, arith}
use Rattle.core_state.specs.Types.{held_of}
use Rattle.core_statements.specs.Initial.{types_of}
use Rattle.core_statements.proofs.Lists.{zero_more}
use Rattle.core_statements.proofs.initial.add_zeros.Goals as goal

pub loop-i-preserved : goal.loop-i-preserved
loop-i-preserved c =
    zero_more (types_of c.args.types) c.loop-i.i (map held_of c.loop-i.parts) (map held_of c.add_zero.new.parts) _ (omega (arith, c.loop-i-test.true, c.len-i-end.ensures)) c.in_ok-add_zero.ensures c.loop-i.invariant
