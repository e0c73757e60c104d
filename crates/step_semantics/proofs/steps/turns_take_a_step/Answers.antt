-- With turns enough, how many more are allowed makes no difference.
use Rattle.step_semantics.proofs.ControlLaws.{forever_turn}
use Rattle.step_semantics.proofs.steps.turns_take_a_step.Goals as goal

pub returns-clause-turn : goal.returns-clause-turn
returns-clause-turn g c = λ body n w s lawful. forever_turn body lawful n w s
