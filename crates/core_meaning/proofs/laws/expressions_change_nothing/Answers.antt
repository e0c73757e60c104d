use Rattle.core_meaning.proofs.Resting.{expressions_rest}
use Rattle.core_meaning.proofs.RestingParts.{arguments_rest, conditions_rest, initializers_rest}
use Rattle.core_meaning.proofs.laws.expressions_change_nothing.Goals as goal

pub returns-clause-expressions : goal.returns-clause-expressions
returns-clause-expressions c = expressions_rest

pub returns-clause-arguments : goal.returns-clause-arguments
returns-clause-arguments c = arguments_rest

pub returns-clause-conditions : goal.returns-clause-conditions
returns-clause-conditions c = conditions_rest

pub returns-clause-initializers : goal.returns-clause-initializers
returns-clause-initializers c = initializers_rest
