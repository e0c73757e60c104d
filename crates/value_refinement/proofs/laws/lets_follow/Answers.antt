use Rattle.value_refinement.proofs.Expressions.{raw_all}
use Rattle.value_refinement.proofs.Lets.{let_follows}
use Rattle.value_refinement.proofs.laws.lets_follow.Goals as goal

pub returns : goal.returns
returns c = λ g set objects s stage e typed small x new from le t related n w. let_follows g set objects s stage e typed x new (raw_all g set objects s stage e typed small) from le t related n w
