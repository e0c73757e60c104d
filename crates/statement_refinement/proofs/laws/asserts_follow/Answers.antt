use Rattle.statement_refinement.proofs.Tests.{assert_follows}
use Rattle.statement_refinement.proofs.laws.asserts_follow.Goals as goal

pub returns : goal.returns
returns c = λ g set none objects s stage e typed check small calls ensured from le t related n w. assert_follows g set objects s stage none e typed check small calls ensured from le t related n w
