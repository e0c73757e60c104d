-- By the causes.
use Rattle.step_semantics.proofs.Ends.{end_of_once}
use Rattle.step_semantics.proofs.outcomes.halts_are_told_apart.Goals as goal

pub returns : goal.returns
returns c = λ first second e. end_of_once first second e
