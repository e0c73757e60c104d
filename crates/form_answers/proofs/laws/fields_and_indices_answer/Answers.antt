use Rattle.form_answers.proofs.FieldSets.{sets_answer}
use Rattle.form_answers.proofs.FieldValues.{fields_answer}
use Rattle.form_answers.proofs.WrappedIndices.{wraps_answer}
use Rattle.form_answers.proofs.laws.fields_and_indices_answer.Goals as goal

pub returns-clause-wraps : goal.returns-clause-wraps
returns-clause-wraps c = wraps_answer

pub returns-clause-fields : goal.returns-clause-fields
returns-clause-fields c = fields_answer

pub returns-clause-sets : goal.returns-clause-sets
returns-clause-sets c = sets_answer
