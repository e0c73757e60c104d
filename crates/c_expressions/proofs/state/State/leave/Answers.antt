use Rattle.std.proofs.Common.{map, ap, ◌∙◌}
use Rattle.std.specs.Prelude.{reverse}
use Rattle.c_memory.specs.Blocks as blocks
use Rattle.c_objects.specs.Store.{objects_of}
use Rattle.c_expressions.specs.State.{frame_of, local_of, own_of}
use Rattle.c_expressions.proofs.Frames.{kept, same_state}
use Rattle.c_expressions.proofs.state.State.leave.Goals as goal

pub returns : goal.returns
returns c before more e n o =
    same_state (reverse (map frame_of c.args.self.now.callers))
    (ap frame_of c.truncate.ensures ∙ kept local_of c.args.self.now.own more (own_of before) c.args.names e n)
    (c.leave.ensures ∙ ap (λ k. blocks.leave k (objects_of c.args.self.now.objects)) o)
