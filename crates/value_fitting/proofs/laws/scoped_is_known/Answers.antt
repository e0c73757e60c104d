use Rattle.value_fitting.proofs.States.{scoped_is_known, fewer_are_known, contracts_know}
use Rattle.value_fitting.proofs.laws.scoped_is_known.Goals as goal

pub returns-clause-scoped : goal.returns-clause-scoped
returns-clause-scoped c = scoped_is_known

pub returns-clause-fewer : goal.returns-clause-fewer
returns-clause-fewer c = fewer_are_known

pub returns-clause-contracts : goal.returns-clause-contracts
returns-clause-contracts c = contracts_know
