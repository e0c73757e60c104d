-- By computation.
use Rattle.std.proofs.Common.{refl}
use Rattle.reading.specs.Reader.{many}
use Rattle.grammars.specs.Reader.{in_stages, read}
use Rattle.c_grammar.specs.ExpressionRules.{expression, binary_operator, tail, value_inside}
use Rattle.c_grammar.specs.StatementRules.{value_or_call, simple, statement}
use Rattle.c_grammar.specs.UnitRules.{defined, first_value, static_item, at_stage, fixed_lines}
use Rattle.c_grammar.proofs.laws.small_texts_are_read_so.Goals as goal

pub returns-clause-read : goal.returns-clause-read
unfolding read many in_stages expression binary_operator tail value_inside value_or_call simple statement defined first_value static_item at_stage fixed_lines
returns-clause-read c = refl

pub returns-clause-deep : goal.returns-clause-deep
unfolding read many in_stages expression binary_operator tail value_inside value_or_call simple statement defined first_value static_item at_stage fixed_lines
returns-clause-deep c = refl

pub returns-clause-no_blank : goal.returns-clause-no_blank
unfolding read many in_stages expression binary_operator tail value_inside value_or_call simple statement defined first_value static_item at_stage fixed_lines
returns-clause-no_blank c = refl

pub returns-clause-blanks : goal.returns-clause-blanks
unfolding read many in_stages expression binary_operator tail value_inside value_or_call simple statement defined first_value static_item at_stage fixed_lines
returns-clause-blanks c = refl

pub returns-clause-order : goal.returns-clause-order
unfolding read many in_stages expression binary_operator tail value_inside value_or_call simple statement defined first_value static_item at_stage fixed_lines
returns-clause-order c = refl

pub returns-clause-early : goal.returns-clause-early
unfolding read many in_stages expression binary_operator tail value_inside value_or_call simple statement defined first_value static_item at_stage fixed_lines
returns-clause-early c = refl
