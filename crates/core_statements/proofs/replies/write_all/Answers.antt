use Rattle.std.proofs.Common.{sym, ◌∙◌, arith}
use Rattle.core_state.specs.State.{state_of}
use Rattle.core_statements.proofs.Written.{written_end, writes_is}
use Rattle.core_statements.proofs.replies.write_all.Goals as goal

pub returns : goal.returns
returns c =
    let new = state_of c.loop-i.state in
    writes_is (state_of c.args.state.now) new _ (sym (written_end c.args.targets.now c.args.args.now c.loop-i.left.rest.now new.areas c.loop-i.i (omega arith)) ∙ c.loop-i.invariant.areas) c.loop-i.invariant.frames
