use Rattle.bit_data.proofs.Words.{changed_field, other_fields, changed_fits}
use Rattle.bit_data.proofs.laws.changed_words.Goals as goal

pub returns-clause-field : goal.returns-clause-field
returns-clause-field c = changed_field

pub returns-clause-others : goal.returns-clause-others
returns-clause-others c = other_fields

pub returns-clause-word : goal.returns-clause-word
returns-clause-word c = changed_fits
