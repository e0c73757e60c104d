-- The laws of the second carry each outcome from where it is met to every later number of steps.
use Rattle.step_semantics.proofs.Both.{refines_where_met}
use Rattle.step_semantics.proofs.refinement.sixteen_steps_suffice.Goals as goal

pub returns : goal.returns
returns c = λ source target laws defined met. refines_where_met source target laws defined met
