use Rattle.std.proofs.Common.{arith, ◌∙◌, sym, ◌≤◌, length}
use Rattle.std.proofs.lemmas.Grind.{common_steps}
use Rattle.c_objects.specs.Store.{objects_of}
use Rattle.c_objects.proofs.Rows.{leave_step, leave_past}
use Rattle.c_objects.proofs.objects.Objects.leave.Goals as goal

pub loop-i-preserved : goal.loop-i-preserved
loop-i-preserved c = (leave_step _ _ _ c.loop-i.i c.end_at.ensures.ended c.loop-i.invariant.0, c.end_at.ensures.same ∙ c.loop-i.invariant.1)

pub returns : goal.returns
returns c =
    let le : length (objects_of c.loop-i.self) ≤ c.loop-i.i = grind (arith, common_steps) in
    sym (leave_past (objects_of c.loop-i.self) c.loop-i.i le) ∙ c.loop-i.invariant.0
