-- By the ways in which a part comes out.
use Rattle.step_semantics.proofs.Ends.{going_is_exhausted, ended_is_finished}
use Rattle.step_semantics.proofs.outcomes.ends_say_what_came.Goals as goal

pub returns-clause-going : goal.returns-clause-going
returns-clause-going g c = λ see r e. going_is_exhausted see r e

pub returns-clause-ended : goal.returns-clause-ended
returns-clause-ended g c = λ see r e.
    let p = ended_is_finished see r e in
    record { value = p.0; state = p.1; left = p.2; is = p.3; areas = p.4 }
