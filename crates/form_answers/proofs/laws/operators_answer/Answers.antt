use Rattle.form_answers.proofs.Casts.{casts_answer, indices_answer}
use Rattle.form_answers.proofs.Operators.{operators_answer}
use Rattle.form_answers.proofs.Truths.{truths_compare, negations_answer}
use Rattle.form_answers.proofs.laws.operators_answer.Goals as goal

pub returns-clause-operators : goal.returns-clause-operators
returns-clause-operators c = operators_answer

pub returns-clause-truths : goal.returns-clause-truths
returns-clause-truths c = truths_compare

pub returns-clause-negations : goal.returns-clause-negations
returns-clause-negations c = negations_answer

pub returns-clause-casts : goal.returns-clause-casts
returns-clause-casts c = casts_answer

pub returns-clause-indices : goal.returns-clause-indices
returns-clause-indices c = indices_answer
