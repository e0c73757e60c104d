use Rattle.bit_data.proofs.Words.{fields_in_a_row, fields_in_the_word, fields_hold_numbers}
use Rattle.bit_data.proofs.laws.fields_of_words.Goals as goal

pub returns-clause-row : goal.returns-clause-row
returns-clause-row c = fields_in_a_row

pub returns-clause-inside : goal.returns-clause-inside
returns-clause-inside c = fields_in_the_word

pub returns-clause-numbers : goal.returns-clause-numbers
returns-clause-numbers c = fields_hold_numbers
