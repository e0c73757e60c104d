-- By induction on the number of ticks.
use Rattle.step_semantics.proofs.Equations.{ticks_paid, ticks_short}
use Rattle.step_semantics.proofs.steps.ticks_are_steps.Goals as goal

pub returns-clause-enough : goal.returns-clause-enough
returns-clause-enough g c = λ d n w s part. ticks_paid d part n w s

pub returns-clause-short : goal.returns-clause-short
returns-clause-short g c = λ d n w s part less. ticks_short d part n w s less
