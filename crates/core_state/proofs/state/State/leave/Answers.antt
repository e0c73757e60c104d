use Rattle.std.proofs.Common.{map, ap, ◌∙◌}
use Rattle.std.specs.Prelude.{reverse}
use Rattle.core_meaning.specs.Areas.{mark_from}
use Rattle.core_state.specs.Changes.{names_of}
use Rattle.core_state.specs.State.{frame_of, slot_of}
use Rattle.core_state.proofs.Entering.{names_kept, same_state, state_is}
use Rattle.core_state.proofs.state.State.leave.Goals as goal

pub returns : goal.returns
returns c before more e n a =
    let first = c.args.self.now.own.first in
    let callers = c.args.self.now.callers in
    state_is c.mark_from.new.self (record { names = c.truncate.new.self; first = first }) callers c.mark_from.ensures.own c.mark_from.ensures.callers
    ∙ same_state first (reverse (map frame_of callers)) (ap names_of c.truncate.ensures ∙ names_kept c.args.self.now.own.names more before.frames.own.names c.args.names e n)
    (c.mark_from.ensures.areas ∙ ap (λ k. mark_from k (map slot_of c.args.self.now.areas.items)) a)
