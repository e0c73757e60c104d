use Rattle.statement_refinement.proofs.Tests.{contracts_follow}
use Rattle.statement_refinement.proofs.laws.contracts_follow.Goals as goal

pub returns : goal.returns
returns c = λ g set objects s stage cs typed small from le t related n w. contracts_follow g set objects s stage cs typed small from le t related n w
