-- By the ways in which a part comes out.
use Rattle.step_semantics.proofs.Ends.{going_hides, undefined_hides}
use Rattle.step_semantics.proofs.outcomes.areas_are_hidden.Goals as goal

pub returns-clause-going : goal.returns-clause-going
returns-clause-going g c = λ see r e. going_hides see r e

pub returns-clause-undefined : goal.returns-clause-undefined
returns-clause-undefined g c = λ see r reason e. undefined_hides see r reason e
